use Rattle.match_reasons.proofs.Firsts.{one_first, never_blocking, tells_full, names_programme}
use Rattle.match_model.specs.Instance.{list_at}
use Rattle.match_reasons.proofs.Kept.{lists_of_pair}
use Rattle.match_reasons.proofs.asking.why.Goals as goal

pub returns-clause-only : goal.returns-clause-only
returns-clause-only c = λ answer h. one_first c.args.listed.now.instance (list_at c.args.listed.now.written.resident_lists c.args.resident) (list_at c.args.listed.now.written.programme_lists c.args.programme) c.args.sheet.now c.args.resident c.args.programme answer c.first_reason.result h c.first_reason.ensures.first

pub returns-clause-members : goal.returns-clause-members
returns-clause-members c = names_programme c.args.listed.now.instance c.args.sheet.now c.args.resident c.first_reason.result c.first_reason.ensures.own

pub returns-clause-never_blocking : goal.returns-clause-never_blocking
returns-clause-never_blocking c = never_blocking c.args.listed.now.instance (list_at c.args.listed.now.written.resident_lists c.args.resident) (list_at c.args.listed.now.written.programme_lists c.args.programme) c.args.sheet.now c.args.resident c.args.programme c.first_reason.result c.first_reason.ensures.first

pub returns-clause-full : goal.returns-clause-full
returns-clause-full c =
    let w = lists_of_pair c.args.listed.now.instance c.args.listed.now.written c.args.resident c.args.programme c.instance-inst.ensures.lists in
    tells_full c.args.listed.now.instance c.instance-inst.ensures.whole (list_at c.args.listed.now.written.resident_lists c.args.resident) (list_at c.args.listed.now.written.programme_lists c.args.programme) c.args.sheet.now c.args.resident c.args.programme c.first_reason.result
    w c.requires.resident c.first_reason.ensures.first
