use Rattle.std.proofs.Common.{◌∙◌, sym, inr, take}
use Rattle.std.proofs.lemmas.Result.{err_from_is_err_and}
use Rattle.docket.specs.Contents.{residents_of}
use Rattle.docket.specs.Rows.{row_at}
use Rattle.docket.proofs.SoundFacts.{unless_none}
use Rattle.docket.proofs.RankingFacts.{place_at, ranking_fault-owned}
use Rattle.docket.proofs.RankedFacts.{ranked_programme, programme_list_fault}
use Rattle.docket.proofs.ListNextFacts.{programme_unknown, programme_says, unknown_refused, list_fine, list_refused}
use Rattle.docket.proofs.passes.ranking.rank_residents.Goals as goal

pub returns-in_default-clause-fault : goal.returns-in_default-clause-fault
returns-in_default-clause-fault c texts rows k h =
    inr (programme_unknown texts c.args.programmes.now c.args.residents.now c.args.builder.now rows k c.args.row.now.record_no c.args.row.now.owner c.args.row.now.listed_names.now h (sym c.member.ensures ∙ c.in_default.is))

pub returns-in_err-listed_residents-clause-fault : goal.returns-in_err-listed_residents-clause-fault
returns-in_err-listed_residents-clause-fault c texts rows k h =
    let says = programme_says texts c.args.programmes.now c.args.residents.now c.args.builder.now rows k c.args.row.now.record_no c.args.row.now.owner c.in-Some.owner c.args.row.now.listed_names.now h (sym c.member.ensures ∙ c.in-Some.is) in
    let asked = ranking_fault-owned rows (take k rows) (row_at rows k) c.args.row.now.record_no c.in-Some.owner h.shown.0 says.owner (h.record_no ∙ place_at rows k h.there) in
    let p = err_from_is_err_and c.from_residual.result c.from_residual.ensures.1 in
    rw (p.1, p.2, asked) (unknown_refused c.args.row.now.record_no (residents_of rows) (row_at rows k) c.args.residents.now c.args.row.now.listed_names.now _ _ says.same c.in_err-listed_residents.ensures.fault)

pub returns-in-Ok-clause-ranked : goal.returns-in-Ok-clause-ranked
returns-in-Ok-clause-ranked c texts rows k h =
    let says = programme_says texts c.args.programmes.now c.args.residents.now c.args.builder.now rows k c.args.row.now.record_no c.args.row.now.owner c.in-Some.owner c.args.row.now.listed_names.now h (sym c.member.ensures ∙ c.in-Some.is) in
    let known = unless_none _ _ c.in_ok-listed_residents.ensures.fault in
    let items = c.as_slice-list.ensures.value ∙ c.in_ok-listed_residents.ensures.listed ∙ says.whole known in
    ranked_programme c.args.builder.now c.programme_list.new.self rows k c.in-Some.owner h.known.sound h.known.few h.there h.shown.0 says.owner h.ranked (rw items at c.in-Ok.ensures.given)

pub returns-in-Ok-clause-fault : goal.returns-in-Ok-clause-fault
returns-in-Ok-clause-fault c texts rows k h =
    let says = programme_says texts c.args.programmes.now c.args.residents.now c.args.builder.now rows k c.args.row.now.record_no c.args.row.now.owner c.in-Some.owner c.args.row.now.listed_names.now h (sym c.member.ensures ∙ c.in-Some.is) in
    let asked = ranking_fault-owned rows (take k rows) (row_at rows k) c.args.row.now.record_no c.in-Some.owner h.shown.0 says.owner (h.record_no ∙ place_at rows k h.there) in
    let known = unless_none _ _ c.in_ok-listed_residents.ensures.fault in
    let items = c.as_slice-list.ensures.value ∙ c.in_ok-listed_residents.ensures.listed ∙ says.whole known in
    let answer = programme_list_fault c.args.builder.now rows k c.in-Some.owner c.as_slice-list.result.now h.known.sound h.known.few h.there h.shown.0 says.owner h.ranked items (sym says.same ∙ known) in
    asked ∙ list_fine c.args.row.now.record_no (residents_of rows) (row_at rows k) c.args.residents.now c.args.row.now.listed_names.now _ says.same c.in_ok-listed_residents.ensures.fault answer c.in-Ok.ensures.first_fault

pub returns-in-Err-clause-fault : goal.returns-in-Err-clause-fault
returns-in-Err-clause-fault c texts rows k h =
    let says = programme_says texts c.args.programmes.now c.args.residents.now c.args.builder.now rows k c.args.row.now.record_no c.args.row.now.owner c.in-Some.owner c.args.row.now.listed_names.now h (sym c.member.ensures ∙ c.in-Some.is) in
    let asked = ranking_fault-owned rows (take k rows) (row_at rows k) c.args.row.now.record_no c.in-Some.owner h.shown.0 says.owner (h.record_no ∙ place_at rows k h.there) in
    let known = unless_none _ _ c.in_ok-listed_residents.ensures.fault in
    let items = c.as_slice-list.ensures.value ∙ c.in_ok-listed_residents.ensures.listed ∙ says.whole known in
    let answer = programme_list_fault c.args.builder.now rows k c.in-Some.owner c.as_slice-list.result.now h.known.sound h.known.few h.there h.shown.0 says.owner h.ranked items (sym says.same ∙ known) in
    rw (asked, c.model_fault.ensures) (list_refused _ c.args.row.now.record_no (residents_of rows) (row_at rows k) c.args.residents.now c.args.row.now.listed_names.now _ c.programme_list.result c.in-Err.fault says.same c.in_ok-listed_residents.ensures.fault answer
    c.programme_list.ensures.first_fault c.in-Err.is)
