use Rattle.std.proofs.Common.{rules, tests, ◌≡◌, true, false, refl}
use Rattle.std.specs.Str.{is_utf8}
use Rattle.std.proofs.lemmas.Iterator.{YieldsList-from_chars}
use Rattle.std.proofs.lemmas.Iterator.Search.{all_from_yields_List}
use Rattle.std.proofs.lemmas.Str.{is_utf8-from_IsUtf8}
use Rattle.receipt_check.specs.Named.{is_part}
use Rattle.receipt_check.proofs.NamedFacts.{no_text}
use Rattle.receipt_check.proofs.named.is_piece.Goals as goal

pub returns-in_default : goal.returns-in_default
returns-in_default c =
    let none : is_utf8 c.args.piece.now ≡ false = no_text c.args.piece.now c.in_default.ensures.cases.0 in
    rw none refl

pub returns : goal.returns
returns c =
    let text = c.in-Ok.ensures.cases in
    let is : is_utf8 c.args.piece.now ≡ true = is_utf8-from_IsUtf8 c.args.piece.now text.1 in
    rw is (all_from_yields_List is_part _ _ _ c.all.ensures.ran (YieldsList-from_chars c.args.piece.now text.1 cc) (λ x b q k. search (rules, tests)))
