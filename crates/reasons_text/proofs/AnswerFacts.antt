-- The answers that a resident gets, after the answer about one more programme.
use Rattle.std.proofs.Common.{◌≡◌, ℕ, ◌<◌, inl, inr, List, [], ◌∷◌, ◌++◌, length, Option, Some, None, true, refl, sym, ap, ◌∙◌, subst, rules}
use Rattle.std.specs.Prelude.{nat_lt, slice_get}
use Rattle.std.specs.List.{list_all}
use Rattle.std.proofs.lemmas.Option.{same_Some, get_or_from_slice_get}
use Rattle.docket_names.proofs.WordFacts.{list_all_true_at}
use Rattle.match_model.specs.Written.{Written, AreWritten}
use Rattle.match_model.proofs.Prefixes.{slice_get_push_parts}
use Rattle.match_reasons.specs.declared.reason.Why.{Why}
use Rattle.docket.specs.Contents.{Contents, draft_of}
use Rattle.docket.specs.Whole.{IsWhole}
use Rattle.docket.specs.WithLists.{IsReadWithin}
use Rattle.match_model.specs.declared.limits.Limits.{Limits}
use Rattle.reasons_text.specs.Answers.{AreFirst, CaseParts, IsAnswer, IsCase}
use Rattle.reasons_text.specs.Faults.{IsCaseFaultWithin, IsOfNoCase}
use Rattle.reasons_text.specs.declared.fault.WhyFault.{WhyFault}
use Rattle.reasons_text.specs.declared.fault.WhyFault.TheVariants.{Docket, Reading, NoSheet, BadKey, DoubledKey, NoResident, NoProgramme, ManyResidents, ManyProgrammes, Records, EmptySheet}
use Rattle.reasons_text.specs.Naming.{Naming, SideNames, no_names, own_names}

-- the answers about the first k programmes on a list, and the answer about the next, are the
-- answers about the first k + 1
pub AreFirst-push : (c : CaseParts) (r : ℕ) (mine : List ℕ) (reasons : List Why) (reason : Why) (p n : ℕ) → length reasons ≡ n →
    slice_get mine n ≡ Some p → AreFirst c r mine reasons → IsAnswer c r p reason → AreFirst c r mine (reasons ++ reason ∷ [])
AreFirst-push c r mine reasons reason p n e there h new i q w at told = elim (slice_get_push_parts reasons reason i w told) [
  | inl old ↦ h i q w at old
  | inr (last, same) ↦
      let here : slice_get mine i ≡ Some p = ap (slice_get mine) (last ∙ e) ∙ there in
      let alike : p ≡ q = same_Some p q (sym here ∙ at) in
      subst (λ (v : Why). IsAnswer c r q v) same (subst (λ z. IsAnswer c r z reason) alike new)
]

-- the instance of a docket is made from the lists that were read with the docket
pub made_of_lists : (limits : Limits) (bytes : Option (List ℕ)) (d : Contents) (written : Written) → IsReadWithin limits bytes d written → AreWritten d.instance written
made_of_lists limits bytes d written h = record { draft = draft_of h.rows; made = ap (λ (c : Contents). c.instance) h.docket_is; lists = h.written_is }

-- the instance of a docket is made from the lists that were read, even if the bytes are unknown
pub read_of : (limits : Limits) (bytes : Option (List ℕ)) (d : Contents) (written : Written) → IsReadWithin limits bytes d written → IsReadWithin limits None d written
read_of limits bytes d written h = record {
  rows = h.rows;
  all = tt;
  faultless = h.faultless;
  docket_is = h.docket_is;
  written_is = h.written_is;
  names = h.names;
  members = h.members;
}

-- why a docket that was read gives no case is a fault of reading a case
pub no_case : (limits : Limits) (bytes : Option (List ℕ)) (d : Contents) (written : Written) (fault : WhyFault) → IsReadWithin limits bytes d written
    → IsOfNoCase d fault → IsCaseFaultWithin limits bytes fault
no_case limits bytes d written (Docket e) read memory = inr memory
no_case limits bytes d written (Reading e) read h = absurd h
no_case limits bytes d written NoSheet read none = record { docket = d; written = written; read = read; none = none }
no_case limits bytes d written (BadKey place) read h = h
no_case limits bytes d written (DoubledKey place) read h = h
no_case limits bytes d written (NoResident told) read h = h
no_case limits bytes d written (NoProgramme told) read h = h
no_case limits bytes d written (ManyResidents told) read h = h
no_case limits bytes d written (ManyProgrammes told) read h = h
no_case limits bytes d written (Records file fault) read h = h
no_case limits bytes d written EmptySheet read h = h

-- the sheet has one entry for each resident
pub places_of : (c : CaseParts) → IsCase c → IsWhole c.docket → length c.sheet ≡ length c.docket.instance.resident_lists
places_of c h whole = (whole.sheet c.sheet h.has_sheet).one_entry_each ∙ whole.residents

pub below_at : (n : ℕ) (xs : List ℕ) (i p : ℕ) → i < length xs → list_all (λ x. nat_lt x n) xs ≡ true → slice_get xs i ≡ Some p → p < n
below_at n xs i p lt all at =
    let below : nat_lt p n ≡ true = subst (λ x. nat_lt x n ≡ true) (get_or_from_slice_get xs i p 0 at) (list_all_true_at (λ x. nat_lt x n) xs i 0 lt all) in
    search (rules, below)

-- if the key has no names, all names are those of the docket
pub names_own : (d e : Contents) (r p : SideNames) → d ≡ e → r ≡ no_names → p ≡ no_names
    → ◌≡◌ {A = Naming} (record { docket = d; residents = r; programmes = p }) (own_names e)
names_own d e r p h k l = rw (h, k, l) refl
