use Rattle.std.proofs.Common.{◌≡◌, ◌∙◌, sym, inr, arith, refl, false, get_or}
use Rattle.std.specs.List.{list_all}
use Rattle.docket.specs.ListPass.{is_member}
use Rattle.docket.proofs.ListNextFacts.{members_more, member_missing}
use Rattle.docket.proofs.passes.ranking.listed_programmes.Goals as goal

pub returns-in_default-clause-fault : goal.returns-in_default-clause-fault
returns-in_default-clause-fault c =
    let fail : list_all (is_member c.args.programmes.now) c.args.name_numbers.now ≡ false = member_missing c.args.programmes.now c.args.name_numbers.now c.loop-name.name-index (omega arith) (sym c.member.ensures ∙ c.in_default.is) in
    rw fail (inr refl)

pub loop-name-preserved : goal.loop-name-preserved
loop-name-preserved c =
    members_more c.args.programmes.now c.args.name_numbers.now c.loop-name.name-index (get_or c.args.name_numbers.now c.loop-name.name-index 0) c.in-Some.programme c.loop-name.list_buffer.items c.push.new.self.items (omega arith) refl (sym c.member.ensures ∙ c.in-Some.is)
    c.loop-name.invariant.0 c.loop-name.invariant.1 c.in_ok-push.ensures.items
