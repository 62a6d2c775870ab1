-- What contracts see of the two ends of a mailbox.
use Rattle.std.specs.Prelude.{ℕ, List}
use Rattle.atomic_table.specs.Seated.{TableId}
use Rattle.atomic_table.specs.declared.badge.Badge.{Badge}
use Rattle.crossbeam_channel.specs.declared.flavors.array.Key.{Key}
use Rattle.crossbeam_channel.specs.Claims.{Pass}
use Rattle.mailbox_rule.specs.declared.rule.Known.{Known}

-- the identity of a mailbox: its table, and its keys
pub record Mailbox (M : Type 0) : Type 0 where
  pub table : TableId
  pub keys : Badge (Key M)

-- the mailbox to which a pass gives access
abbrev pub mailbox_of : {M V : Type 0} → Pass M V → Mailbox M
mailbox_of pass = record { table = pass.table_id; keys = pass.me.0.of }

-- what the owner of the pass knows of the mailbox
abbrev pub hand_of : {M : Type 0} → Pass M (Known M) → Known M
hand_of pass = pass.me.0.client

-- a sending end: its mailbox, its capacity, and the messages that it has put
pub record PutSide (M : Type 0) : Type 0 where
  pub mailbox : Mailbox M
  pub room : ℕ
  pub puts : List M

-- a receiving end: its mailbox, and the messages that it has taken
pub record TakeSide (M : Type 0) : Type 0 where
  pub mailbox : Mailbox M
  pub taken : List M
