use Rattle.std.proofs.Common.{◌∙◌, sym, ap, inr, take}
use Rattle.docket.specs.Contents.{residents_of}
use Rattle.docket.specs.Passes.{names_on}
use Rattle.docket.specs.Rows.{row_at}
use Rattle.docket.proofs.RankingFacts.{place_at}
use Rattle.docket.proofs.GoneFacts.{withdrawal_named, withdrawal_unnamed, ranked_resident_gone, resident_stays, not_refused}
use Rattle.docket.proofs.ListNextFacts.{resident_named}
use Rattle.docket.proofs.passes.ranking.withdraw_resident.Goals as goal

pub returns-in_default-clause-fault : goal.returns-in_default-clause-fault
returns-in_default-clause-fault c texts rows programmes k h =
    let at = resident_named texts programmes c.args.residents.now c.args.builder.now rows k c.args.row.now.record_no c.args.row.now.owner h ∙ (sym c.member.ensures ∙ c.in_default.is) in
    inr (withdrawal_unnamed rows (take k rows) (row_at rows k) (residents_of rows) c.args.row.now.record_no h.shown.0 (ap (λ side. names_on side rows) h.shown.1) at (h.record_no ∙ place_at rows k h.there))

pub returns-in-Ok-clause-ranked : goal.returns-in-Ok-clause-ranked
returns-in-Ok-clause-ranked c texts rows programmes k h =
    let at = resident_named texts programmes c.args.residents.now c.args.builder.now rows k c.args.row.now.record_no c.args.row.now.owner h ∙ (sym c.member.ensures ∙ c.in-Some.is) in
    ranked_resident_gone c.args.builder.now c.withdraw_resident.new.self rows k c.in-Some.resident h.known.sound h.known.few h.there h.shown.0 h.shown.1 at h.ranked c.in-Ok.ensures.withdrawn

pub returns-in-Ok-clause-fault : goal.returns-in-Ok-clause-fault
returns-in-Ok-clause-fault c texts rows programmes k h =
    let at = resident_named texts programmes c.args.residents.now c.args.builder.now rows k c.args.row.now.record_no c.args.row.now.owner h ∙ (sym c.member.ensures ∙ c.in-Some.is) in
    withdrawal_named rows (take k rows) (row_at rows k) (residents_of rows) c.args.row.now.record_no c.in-Some.resident h.shown.0 (ap (λ side. names_on side rows) h.shown.1) at

pub returns-in-Err-clause-fault : goal.returns-in-Err-clause-fault
returns-in-Err-clause-fault c texts rows programmes k h =
    let at = resident_named texts programmes c.args.residents.now c.args.builder.now rows k c.args.row.now.record_no c.args.row.now.owner h ∙ (sym c.member.ensures ∙ c.in-Some.is) in
    let fine = resident_stays c.args.builder.now rows k c.in-Some.resident h.known.sound h.known.few h.there h.shown.0 h.shown.1 at h.ranked in
    absurd (not_refused _ c.withdraw_resident.result _ fine c.withdraw_resident.ensures.fault c.in-Err.is)
