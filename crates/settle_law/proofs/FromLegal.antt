-- What legal lists of events show about offers and takes. From this it follows that no rejection of an achievable
-- programme is ever due.
use Rattle.std.proofs.Common.{◌<◌, ◌≡◌, ℕ, ◌+◌, ◌≤◌, Bool, true, false, cond, not, ◌&&◌, List, [], ◌∷◌, ◌++◌, length, get_or, arith, refl, sym, ap, ◌∙◌, inl, inr, subst, true≢false, eqb, eq-eqb, le_of_eq}
use Rattle.std.specs.Prelude.{Option, Some, None}
use Rattle.std.specs.List.{count_by, sum_by, All}
use Rattle.std.proofs.lemmas.Bool.{cases_eq, cases_lt, and_from}
use Rattle.std.proofs.lemmas.List.{get_or_past}
use Rattle.std.proofs.lemmas.List.Sums.{get_or-le-sum_by}
use Rattle.match_model.specs.Ranking.{IsListed, is_listed}
use Rattle.match_model.specs.Instance.{Instance, IsInstance, IsResident, quota, list_of_programme, list_of_resident}
use Rattle.match_model.specs.Placement.{holds}
use Rattle.match_model.proofs.Instances.{acceptable_resident}
use Rattle.exchange_core.specs.declared.event.Event.{Event}
use Rattle.exchange_core.specs.declared.event.Event.TheVariants.{Offer, Take, Answer, Hear, Close}
use Rattle.exchange_core.specs.declared.event.Capacity.{Capacity}
use Rattle.exchange_core.specs.Mail.{Answered, offers_of, offers_to, takes, taken_by, answers_of}
use Rattle.exchange_core.specs.Calls.{best_of, calls, is_rejection, out}
use Rattle.exchange_core.specs.Legal.{MayFollow, IsLegal, IsAtRest, is_closed}
use Rattle.exchange_core.specs.Left.{given}
use Rattle.exchange_core.specs.Refusal.{is_number}
use Rattle.match_model.proofs.Listed.{prefix_listed}
use Rattle.exchange_core.proofs.Mail.{takes_nil, takes_same, where_same_apart}
use Rattle.exchange_core.proofs.Legal.{legal_push, legal_induction}
use Rattle.exchange_core.proofs.InOrder.{offers_in_order, takes_in_order, listed_offer_to, listed_offer_of, takes_no_repeats, offer_acceptable}
use Rattle.match_model.proofs.Prefixes.{prefix_whole}
use Rattle.settle_law.proofs.Closing.{closed_is_at_rest, length-given, given_at, given_past, rest_taken, rest_answered, rest_held, rest_out}
use Rattle.exchange_core.proofs.Rejections.{is_rejection_of, rejections_of, rejections_of-calls, heard_rejections_within, out_and_rejections, out_within_quota}
use Rattle.match_model.proofs.Counts.{sum_by_same}
use Rattle.settle_law.specs.Stable.{IsAchievable}
use Rattle.settle_law.specs.SettledLaws.{SparesAchievable}
use Rattle.settle_law.proofs.Counting.{one_if, sum_by-le_listed}
use Rattle.settle_law.proofs.NeverRejects.{has_turned_down, Standing, SparesAll, spares_one}
use Rattle.settle_law.proofs.AtClose.{Closing}

-- the offers and the takes of a list of events, for each member
abbrev pub offered : List Event → ℕ → List ℕ
offered j p = offers_of p j

abbrev pub taken : List Event → ℕ → List ℕ
taken j r = takes r j

-- how many rejections of programme p the takes of resident r made due
abbrev pub called_to_reject : Instance → List Event → ℕ → ℕ → ℕ
called_to_reject inst j p r = rejections_of p (calls (list_of_resident inst r) (takes r j))

-- two ways to test whether an option has a number give the same answer
number_test : (o : Option ℕ) (p : ℕ) → is_number o p ≡ holds p o
number_test None p = refl
number_test (Some q) p = refl

count_once : (b c : Bool) → cond b (cond c 0 1) 0 ≡ one_if (b && not c)
count_once true true = refl
count_once true false = refl
count_once false c = refl

true_from_one : (b : Bool) → 1 ≤ one_if b → b ≡ true
true_from_one true h = refl
true_from_one false h = absurd (omega arith)

-- a rejection among the answers counts as a rejection of the programme that it names
counted_rejection : (answers : List Answered) (k : ℕ) (d : Answered) → k < length answers →
    is_rejection (get_or answers k d) ≡ true → 1 ≤ rejections_of (get_or answers k d).0 answers
counted_rejection answers k d l t =
    let p = (get_or answers k d).0 in
    let one : one_if (is_rejection_of p (get_or answers k d)) ≡ 1 = ap one_if (and_from (is_rejection (get_or answers k d)) (eqb p p) t (eq-eqb p p refl)) in
    let within = get_or-le-sum_by (λ a. one_if (is_rejection_of p a)) answers k d l in
    omega arith

module _ (inst : Instance) (cap : Capacity) (good : IsInstance inst) where
  -- resident r owed one rejection of programme p if r has turned p down, and no rejection of p otherwise
  pub called_rejections : (j : List Event) → IsLegal inst cap j → (r p : ℕ) →
      called_to_reject inst j p r ≡ one_if (has_turned_down inst (taken j) p r)
  called_rejections j legal r p =
      let a = rejections_of-calls (list_of_resident inst r) (takes r j) (takes_no_repeats inst cap good j legal r) p in
      let b = number_test (best_of (list_of_resident inst r) (takes r j)) p in
      let c = count_once (is_listed (takes r j) p) (holds p (best_of (list_of_resident inst r) (takes r j))) in
      a ∙ ap (λ t. cond (is_listed (takes r j) p) (cond t 0 1) 0) b ∙ c

  pub turned_down_in_all : (j : List Event) → IsLegal inst cap j → (p : ℕ) →
      sum_by (called_to_reject inst j p) (offers_of p j) ≡ count_by (has_turned_down inst (taken j) p) (offers_of p j)
  turned_down_in_all j legal p = sum_by_same (called_to_reject inst j p) (λ r. one_if (has_turned_down inst (taken j) p r)) (offers_of p j) (λ i r e. called_rejections j legal r p)

  pub standing : (j : List Event) → IsLegal inst cap j → Standing inst (offered j) (taken j)
  standing j legal = record {
    in_order = offers_in_order inst cap j legal;
    taken_was_offered = λ r p l. listed_offer_of p r j (prefix_listed (takes r j) (offers_to r j) p (takes_in_order inst cap j legal r) l);
    within_quota = λ p.
        let heard = heard_rejections_within inst cap good j legal p in
        let parts = out_and_rejections inst cap good j legal p in
        let within = out_within_quota inst cap j legal p in
        let same = turned_down_in_all j legal p in
        omega arith;
  }

  -- an event that does not change what a resident took does not change which programmes the resident has turned down
  unmoved : (j : List Event) (e : Event) → SparesAll inst (taken j) → (r p : ℕ) → taken_by r e ≡ [] →
      has_turned_down inst (taken (j ++ e ∷ [])) p r ≡ true → ¬ IsAchievable inst r p
  unmoved j e ih r p none t = ih.spares r p (subst (λ l. has_turned_down inst (λ s. l) p r ≡ true) (takes_same r j e none) t)

  after_take : (j : List Event) (q b : ℕ) → IsLegal inst cap (j ++ Take q b ∷ []) → SparesAll inst (taken j) →
      (r p : ℕ) → has_turned_down inst (taken (j ++ Take q b ∷ [])) p r ≡ true → ¬ IsAchievable inst r p
  after_take j q b legal ih r p t = elim (cases_eq r q) [
    | inl same ↦ spares_one inst good (offered (j ++ Take q b ∷ [])) (taken (j ++ Take q b ∷ [])) (standing (j ++ Take q b ∷ []) legal) r
        (λ s o apart d. unmoved j (Take q b) ih s o (where_same_apart q s b (λ e. apart (sym e ∙ sym same))) d) p t
    | inr other ↦ unmoved j (Take q b) ih r p (where_same_apart q r b (λ e. other (sym e))) t
  ]

  -- no legal list of events makes a resident turn down an achievable programme; only a take can turn a programme down
  pub spares_all : (j : List Event) → IsLegal inst cap j → SparesAll inst (taken j)
  spares_all = legal_induction inst cap (λ j. SparesAll inst (taken j)) nil push
    where
      nil : SparesAll inst (taken [])
      nil = record { spares = λ r p t a. true≢false (sym t ∙ ap (λ l. has_turned_down inst (λ s. l) p r) (takes_nil r)) }

      push : (j : List Event) (e : Event) → IsLegal inst cap j → MayFollow inst cap j e →
          SparesAll inst (taken j) → SparesAll inst (taken (j ++ e ∷ []))
      push j (Offer q b) legal may ih = record { spares = λ r p. unmoved j (Offer q b) ih r p refl }
      push j (Take q b) legal may ih = record { spares = after_take j q b (legal_push inst cap j (Take q b) legal may) ih }
      push j (Answer q b k) legal may ih = record { spares = λ r p. unmoved j (Answer q b k) ih r p refl }
      push j (Hear q b k) legal may ih = record { spares = λ r p. unmoved j (Hear q b k) ih r p refl }
      push j Close legal may ih = record { spares = λ r p. unmoved j Close ih r p refl }

  -- if a rejection of a programme was due, the programme is not achievable for the resident
  pub never_rejects : (j : List Event) → IsLegal inst cap j → (r : ℕ) →
      All (SparesAchievable inst r) (calls (list_of_resident inst r) (takes r j))
  never_rejects j legal r k d l rejects =
      let answers = calls (list_of_resident inst r) (takes r j) in
      let p = (get_or answers k d).0 in
      let counted = counted_rejection answers k d l rejects in
      let called = called_rejections j legal r p in
      (spares_all j legal).spares r p (true_from_one (has_turned_down inst (taken j) p r) (omega arith))

  -- a resident to whom a programme offered belongs to the instance
  offered_is_resident : (j : List Event) → IsLegal inst cap j → (p r : ℕ) → IsListed (offers_of p j) r →
      IsResident inst r
  offered_is_resident j legal p r l = acceptable_resident inst good r p (offer_acceptable inst cap good j legal p r l)

  -- a legal list of events at rest has everything that the argument about the close needs
  pub closing : (j : List Event) → IsLegal inst cap j → IsAtRest inst j →
      Closing inst (offered j) (taken j) (given inst j)
  closing j legal rest = record {
    standing = standing j legal;
    spares_all = spares_all j legal;
    all_taken = λ r p l. subst (λ xs. IsListed xs p) (sym (rest_taken inst cap j legal rest r)) (listed_offer_to p r j l);
    no_wish = λ p. elim (cases_lt p (length inst.quotas)) [
      | inl i ↦ elim (rest.no_wish p i) [ inl full ↦ inl (all_out p full) | inr all ↦ inr all ]
      | inr past ↦ inr (prefix_whole (offers_of p j) (list_of_programme inst p) (offers_in_order inst cap j legal p)
          (let none = ap length (get_or_past inst.programme_lists p [] (omega (arith, good.one_list_each))) in omega arith))
    ];
    one_place_each = length-given inst j;
    best_given = λ r. elim (cases_lt r (length inst.resident_lists)) [
      | inl i ↦ given_at inst j r i ∙ rest_held inst cap j legal rest r i ∙ ap (best_of (list_of_resident inst r)) (sym (rest_taken inst cap j legal rest r))
      | inr past ↦ given_past inst j r (λ i. omega arith) ∙ ap (λ xs. best_of xs (takes r j)) (sym (get_or_past inst.resident_lists r [] past))
    ];
  }
    where
      answered : (p r : ℕ) → IsListed (offers_of p j) r →
          called_to_reject inst j p r ≤ rejections_of p (answers_of r j)
      answered p r l =
          let given_all = rest_answered inst cap j legal rest r (offered_is_resident j legal p r l) in
          le_of_eq (ap (rejections_of p) (ap (calls (list_of_resident inst r)) (rest_taken inst cap j legal rest r) ∙ sym given_all))

      all_out : (p : ℕ) → out p j ≡ quota inst p →
          length (offers_of p j) ≡ quota inst p + count_by (has_turned_down inst (taken j) p) (offers_of p j)
      all_out p full =
          let parts = rest_out inst cap j legal rest good p in
          let called = sum_by-le_listed (called_to_reject inst j p) (λ r. rejections_of p (answers_of r j)) (offers_of p j) (answered p) in
          let same = turned_down_in_all j legal p in
          let within = (standing j legal).within_quota p in
          omega arith

  -- a closed legal list of events has everything that the argument about the close needs
  pub closing_of_closed : (j : List Event) → IsLegal inst cap j → is_closed j ≡ true →
      Closing inst (offered j) (taken j) (given inst j)
  closing_of_closed j legal closed = closing j legal (closed_is_at_rest inst cap j legal closed)
