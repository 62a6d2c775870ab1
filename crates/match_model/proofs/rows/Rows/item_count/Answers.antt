use Rattle.std.proofs.Common.{arith}
use Rattle.match_model.proofs.Parted.{length-all_parts}
use Rattle.match_model.proofs.rows.Rows.item_count.Goals as goal

pub returns : goal.returns
returns g c = rw (← c.self.view_is) (omega (arith, c.len.ensures, length-all_parts 0 c.self.inside.ends.items c.self.inside.items.items c.self.invariant))
