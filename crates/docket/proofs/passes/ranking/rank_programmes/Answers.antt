use Rattle.std.proofs.Common.{◌∙◌, sym, take}
use Rattle.std.proofs.lemmas.Result.{err_from_is_err_and}
use Rattle.docket.specs.Contents.{programmes_of}
use Rattle.docket.specs.Rows.{row_at}
use Rattle.docket.proofs.SoundFacts.{unless_none}
use Rattle.docket.proofs.RankingFacts.{place_at, ranking_fault-resident}
use Rattle.docket.proofs.RankedFacts.{ranked_resident, resident_list_fault}
use Rattle.docket.proofs.ListNextFacts.{resident_known, resident_says, unknown_refused, list_fine, list_refused}
use Rattle.docket.proofs.passes.ranking.rank_programmes.Goals as goal

pub returns-in_default-clause-fault : goal.returns-in_default-clause-fault
returns-in_default-clause-fault c texts rows k h =
    absurd (resident_known texts c.args.programmes.now c.args.residents.now c.args.builder.now rows k c.args.row.now.record_no c.args.row.now.owner c.args.row.now.listed_names.now h (sym c.member.ensures ∙ c.in_default.is))

pub returns-in_err-listed_programmes-clause-fault : goal.returns-in_err-listed_programmes-clause-fault
returns-in_err-listed_programmes-clause-fault c texts rows k h =
    let says = resident_says texts c.args.programmes.now c.args.residents.now c.args.builder.now rows k c.args.row.now.record_no c.args.row.now.owner c.in-Some.owner c.args.row.now.listed_names.now h (sym c.member.ensures ∙ c.in-Some.is) in
    let asked = ranking_fault-resident rows (take k rows) (row_at rows k) c.args.row.now.record_no h.shown.0 (h.record_no ∙ place_at rows k h.there) in
    let p = err_from_is_err_and c.from_residual.result c.from_residual.ensures.1 in
    rw (p.1, p.2, asked) (unknown_refused c.args.row.now.record_no (programmes_of rows) (row_at rows k) c.args.programmes.now c.args.row.now.listed_names.now _ _ says.same c.in_err-listed_programmes.ensures.fault)

pub returns-in-Ok-clause-ranked : goal.returns-in-Ok-clause-ranked
returns-in-Ok-clause-ranked c texts rows k h =
    let says = resident_says texts c.args.programmes.now c.args.residents.now c.args.builder.now rows k c.args.row.now.record_no c.args.row.now.owner c.in-Some.owner c.args.row.now.listed_names.now h (sym c.member.ensures ∙ c.in-Some.is) in
    let known = unless_none _ _ c.in_ok-listed_programmes.ensures.fault in
    let items = c.as_slice.ensures.value ∙ c.in_ok-listed_programmes.ensures.listed ∙ says.whole known in
    ranked_resident c.args.builder.now c.resident_list.new.self rows k c.in-Some.owner h.known.sound h.known.few h.there h.shown.0 says.owner h.ranked (rw items at c.in-Ok.ensures.given)

pub returns-in-Ok-clause-fault : goal.returns-in-Ok-clause-fault
returns-in-Ok-clause-fault c texts rows k h =
    let says = resident_says texts c.args.programmes.now c.args.residents.now c.args.builder.now rows k c.args.row.now.record_no c.args.row.now.owner c.in-Some.owner c.args.row.now.listed_names.now h (sym c.member.ensures ∙ c.in-Some.is) in
    let asked = ranking_fault-resident rows (take k rows) (row_at rows k) c.args.row.now.record_no h.shown.0 (h.record_no ∙ place_at rows k h.there) in
    let known = unless_none _ _ c.in_ok-listed_programmes.ensures.fault in
    let items = c.as_slice.ensures.value ∙ c.in_ok-listed_programmes.ensures.listed ∙ says.whole known in
    let answer = resident_list_fault c.args.builder.now rows k c.in-Some.owner c.as_slice.result.now h.known.sound h.known.few h.there h.shown.0 says.owner h.ranked items (sym says.same ∙ known) in
    asked ∙ list_fine c.args.row.now.record_no (programmes_of rows) (row_at rows k) c.args.programmes.now c.args.row.now.listed_names.now _ says.same c.in_ok-listed_programmes.ensures.fault answer c.in-Ok.ensures.first_fault

pub returns-in-Err-clause-fault : goal.returns-in-Err-clause-fault
returns-in-Err-clause-fault c texts rows k h =
    let says = resident_says texts c.args.programmes.now c.args.residents.now c.args.builder.now rows k c.args.row.now.record_no c.args.row.now.owner c.in-Some.owner c.args.row.now.listed_names.now h (sym c.member.ensures ∙ c.in-Some.is) in
    let asked = ranking_fault-resident rows (take k rows) (row_at rows k) c.args.row.now.record_no h.shown.0 (h.record_no ∙ place_at rows k h.there) in
    let known = unless_none _ _ c.in_ok-listed_programmes.ensures.fault in
    let items = c.as_slice.ensures.value ∙ c.in_ok-listed_programmes.ensures.listed ∙ says.whole known in
    let answer = resident_list_fault c.args.builder.now rows k c.in-Some.owner c.as_slice.result.now h.known.sound h.known.few h.there h.shown.0 says.owner h.ranked items (sym says.same ∙ known) in
    rw (asked, c.model_fault.ensures) (list_refused _ c.args.row.now.record_no (programmes_of rows) (row_at rows k) c.args.programmes.now c.args.row.now.listed_names.now _ c.resident_list.result c.in-Err.fault says.same c.in_ok-listed_programmes.ensures.fault answer
    c.resident_list.ensures.first_fault c.in-Err.is)
