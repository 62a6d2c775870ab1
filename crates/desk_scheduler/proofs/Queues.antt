-- What stays true of the queues while desks join and leave them.
use Rattle.std.proofs.Common.{◌≡◌, ◌≢◌, ℕ, ◌+◌, ◌*◌, ◌<◌, ◌≤◌, ◌==◌, inl, inr, Bool, true, false, List, [], ◌∷◌, ◌++◌, Option, Some, None, length, set, refl, sym, ap, ◌∙◌, subst, arith, length-append, append_assoc}
use Rattle.std.specs.Prelude.{sum_by, replicate}
use Rattle.std.proofs.lemmas.Bool.{eqb-true, eqb-false, cases_lt}
use Rattle.std.proofs.lemmas.Grind.{get_or-set_at}
use Rattle.std.proofs.lemmas.List.{get_or-set_other, get_or_past, get_or-replicate, length-set, length-replicate}
use Rattle.std.proofs.lemmas.List.Sums.{sum_by-set, sum_by_push, sum_by-append, sum_by-cons}
use Rattle.std.proofs.lemmas.List.Folds.{sum_by-replicate}
use Rattle.desk_scheduler.specs.Desks.{one_for}
use Rattle.desk_scheduler.specs.Waits.{Waits, linked_at, one_waits, one_waits_at, waiting_from, queue_of, first_of, last_from, last_of, without, linked_to, ended_at, joined_rows, left_rows, Linked, IsQueue, AreQueues}
use Rattle.desk_scheduler.proofs.QueueRows.{in_front, in_rest, one_same, one_other, none_some, some_same, count_split, first_counts, last_counts, last_of_counts, last_append, last_append_none, some_last, not_empty, Cut, cut, CutAt, cut_at, without_cut, waits_le, waits_here, waits_elsewhere, waiting_none, within_row, cut_waits, counts_waits, walked, untouched, linked_to_other, ended_at_other, length_linked_to, length_ended_at, linked_to_here, ended_here, ended_else, queue_past, not_in, last_waits}

-- The queues while no desk waits

none_at : (n : ℕ) (k : ℕ) (row : List (Option ℕ)) → row ≡ replicate n None → linked_at row k ≡ None
none_at n k row is = ap (λ (r : List (Option ℕ)). linked_at r k) is ∙ elim (cases_lt k n) [
  | inl l ↦ get_or-replicate n k None None l
  | inr past ↦ get_or_past (replicate n None) k None (omega (arith, past, length-replicate {A = Option ℕ} n None))
]

length_at : (n : ℕ) (row : List (Option ℕ)) → row ≡ replicate n None → length row ≡ n
length_at n row is = ap (λ (r : List (Option ℕ)). length r) is ∙ length-replicate n None

none_sum : (f : Option ℕ → ℕ) (n : ℕ) (row : List (Option ℕ)) → f None ≡ 0 → row ≡ replicate n None → sum_by f row ≡ 0
none_sum f n row none is = ap (λ (r : List (Option ℕ)). sum_by f r) is ∙ (sum_by-replicate f n None ∙ (ap (λ (k : ℕ). n * k) none ∙ omega arith))

pub nobody_yet : (w : Waits) (n : ℕ) → w.first ≡ replicate n None → w.last ≡ replicate n None → w.mailbox ≡ replicate n None
    → w.before ≡ replicate n None → w.behind ≡ replicate n None → (AreQueues w 0) × ((m : ℕ) → queue_of w m ≡ [])
nobody_yet w n first last mailbox before behind = (
  record {
    counted = sym (none_sum one_waits n w.mailbox refl mailbox);
    rows = record {
      last = length_at n w.last last ∙ sym (length_at n w.first first);
      mailbox = length_at n w.mailbox mailbox ∙ sym (length_at n w.first first);
      before = length_at n w.before before ∙ sym (length_at n w.first first);
      behind = length_at n w.behind behind ∙ sym (length_at n w.first first);
    };
    unlinked = λ d m waits past. absurd (none_some m (sym (none_at n d w.mailbox mailbox) ∙ waits));
    queued = λ m l. subst (λ (q : List ℕ). IsQueue w m q) (sym (empty m)) (record {
      first = none_at n m w.first first;
      last = none_at n m w.last last;
      links = λ xs d ys e. absurd (not_empty xs d ys e);
      once = λ d. sym (ap (one_waits_at m) (none_at n d w.mailbox mailbox));
      as_many = sym (none_sum (one_waits_at m) n w.mailbox refl mailbox);
    });
  },
  empty,
)
  where
    empty : (m : ℕ) → queue_of w m ≡ []
    empty m = ap (λ (o : Option ℕ). waiting_from w.behind (length w.mailbox) o) (none_at n m w.first first) ∙ waiting_none w.behind (length w.mailbox)

-- The queues after desk d joins the queue of mailbox m

module _ (w : Waits) (count m d : ℕ) (are : AreQueues w count) (within : d < length w.mailbox) (waits_not : linked_at w.mailbox d ≡ None) where
  -- a desk that waits is another than desk d, since d does not wait yet
  waits_apart : (k n : ℕ) → linked_at w.mailbox k ≡ Some n → k ≢ d
  waits_apart k n waits same =
      let bad : linked_at w.mailbox d ≡ Some n = subst (λ (j : ℕ). linked_at w.mailbox j ≡ Some n) same waits in
      let worse : None ≡ Some n = sym waits_not ∙ bad in
      cc

  mailbox_other : (k : ℕ) → k ≢ d → linked_at (set w.mailbox d (Some m)) k ≡ linked_at w.mailbox k
  mailbox_other k apart = get_or-set_other w.mailbox d k (Some m) None apart

  mailbox_here : (k : ℕ) → k ≡ d → linked_at (set w.mailbox d (Some m)) k ≡ Some m
  mailbox_here k same = get_or-set_at w.mailbox d k (Some m) None same within

  before_other : (k n : ℕ) → linked_at w.mailbox k ≡ Some n → linked_at (joined_rows w m d).before k ≡ linked_at w.before k
  before_other k n waits = get_or-set_other w.before d k (linked_at w.last m) None (waits_apart k n waits)

  -- only the last desk of the queue gets a new link to the desk behind it
  behind_other : (k n : ℕ) → linked_at w.mailbox k ≡ Some n → ((e : ℕ) → linked_at w.last m ≡ Some e → k ≢ e)
      → linked_at (joined_rows w m d).behind k ≡ linked_at w.behind k
  behind_other k n waits apart =
      get_or-set_other (linked_to w.behind (linked_at w.last m) (Some d)) d k None None (waits_apart k n waits)
      ∙ linked_to_other w.behind (linked_at w.last m) (Some d) k apart

  -- a desk that waits for another mailbox isn't the last desk of this queue
  elsewhere_apart : (k n : ℕ) → n ≢ m → linked_at w.mailbox k ≡ Some n → (e : ℕ) → linked_at w.last m ≡ Some e → k ≢ e
  elsewhere_apart k n apart waits e last same =
      let here : linked_at w.mailbox k ≡ Some m = subst (λ (j : ℕ). linked_at w.mailbox j ≡ Some m) (sym same) (last_waits w count are m e last) in
      let both : Some n ≡ Some m = sym waits ∙ here in
      apart (cc)

  -- the queues of all other mailboxes stay as they are
  joined_else : (n : ℕ) → n < length w.first → n ≢ m → IsQueue (joined_rows w m d) n (queue_of w n)
  joined_else n l apart = untouched w n (queue_of w n) (are.queued n l) (joined_rows w m d)
      (ended_at_other w.first (linked_at w.last m) m (Some d) n apart)
      (get_or-set_other w.last m n (Some d) None apart)
      (λ k waits. before_other k n waits)
      (λ k waits. behind_other k n waits (elsewhere_apart k n apart waits))
      (λ k. by k (k == d) refl)
      sum
    where
      none : one_waits_at n (linked_at w.mailbox d) ≡ 0
      none = ap (one_waits_at n) waits_not

      by : (k : ℕ) (b : Bool) → (k == d) ≡ b → one_waits_at n (linked_at (set w.mailbox d (Some m)) k) ≡ one_waits_at n (linked_at w.mailbox k)
      by k true e =
          let same = eqb-true k d e in
          ap (one_waits_at n) (mailbox_here k same) ∙ (waits_elsewhere n m (λ f. apart (sym f)) ∙ (sym none ∙ ap (λ (j : ℕ). one_waits_at n (linked_at w.mailbox j)) (sym same)))
      by k false e = ap (one_waits_at n) (mailbox_other k (eqb-false k d e))

      sum : sum_by (one_waits_at n) (set w.mailbox d (Some m)) ≡ sum_by (one_waits_at n) w.mailbox
      sum = omega (arith, sum_by-set (one_waits_at n) w.mailbox d (Some m) None within, none, waits_elsewhere n m (λ f. apart (sym f)))

  -- desk d stands behind all desks that wait for mailbox m
  joined_here : m < length w.first → IsQueue (joined_rows w m d) m (queue_of w m ++ d ∷ [])
  joined_here l = record {
    first = first_by (queue_of w m) (are.queued m l).first (are.queued m l).last;
    last = get_or-set_at w.last m m (Some d) None refl (omega (arith, l, are.rows.last)) ∙ sym (last_append None (queue_of w m) d []);
    links = λ xs k ys e. links xs k ys (cut (queue_of w m) (d ∷ []) xs k ys e);
    once = λ k. once k (k == d) refl;
    as_many = omega (arith, length-append (queue_of w m) (d ∷ []), (are.queued m l).as_many, sum_by-set (one_waits_at m) w.mailbox d (Some m) None within, waits_here m, none);
  }
    where
      none : one_waits_at m (linked_at w.mailbox d) ≡ 0
      none = ap (one_waits_at m) waits_not

      first_by : (q : List ℕ) → linked_at w.first m ≡ first_of q → linked_at w.last m ≡ last_of q
          → linked_at (ended_at w.first (linked_at w.last m) m (Some d)) m ≡ first_of (q ++ d ∷ [])
      first_by [] f last = ap (λ (o : Option ℕ). linked_at (ended_at w.first o m (Some d)) m) last ∙ get_or-set_at w.first m m (Some d) None refl l
      first_by (x ∷ xs) f last = by (linked_at w.last m) refl
        where
          by : (o : Option ℕ) → linked_at w.last m ≡ o → linked_at (ended_at w.first o m (Some d)) m ≡ Some x
          by (Some e) is = f
          by None is = absurd (some_last x xs (sym last ∙ is))

      once : (k : ℕ) (b : Bool) → (k == d) ≡ b
          → sum_by (one_for k) (queue_of w m ++ d ∷ []) ≡ one_waits_at m (linked_at (set w.mailbox d (Some m)) k)
      once k true e =
          let same = eqb-true k d e in
          let old : one_waits_at m (linked_at w.mailbox k) ≡ 0 = ap (λ (j : ℕ). one_waits_at m (linked_at w.mailbox j)) same ∙ none in
          let one : one_for k d ≡ 1 = ap (λ (j : ℕ). one_for j d) same ∙ one_same d in
          let new : one_waits_at m (linked_at (set w.mailbox d (Some m)) k) ≡ 1 = ap (one_waits_at m) (mailbox_here k same) ∙ waits_here m in
          omega (arith, sum_by_push (one_for k) (queue_of w m) d, (are.queued m l).once k, old, one, new)
      once k false e =
          let apart = eqb-false k d e in
          let not_one : one_for k d ≡ 0 = one_other k d (λ f. apart (sym f)) in
          let new : one_waits_at m (linked_at (set w.mailbox d (Some m)) k) ≡ one_waits_at m (linked_at w.mailbox k) = ap (one_waits_at m) (mailbox_other k apart) in
          omega (arith, sum_by_push (one_for k) (queue_of w m) d, (are.queued m l).once k, not_one, new)

      -- a desk that waited for mailbox m before desk d joined is linked as in the queue with d at its
      -- end
      link_front : (xs : List ℕ) (k : ℕ) (zs : List ℕ) → queue_of w m ≡ xs ++ k ∷ zs → Linked (joined_rows w m d) xs k (zs ++ d ∷ [])
      link_front xs k [] e =
          let old = (are.queued m l).links xs k [] e in
          let waits = (cut_waits w m (queue_of w m) (are.queued m l) xs k [] e).0 in
          let last : linked_at w.last m ≡ Some k = (are.queued m l).last ∙ (ap last_of e ∙ last_append None xs k []) in
          record {
            before = before_other k m waits ∙ old.before;
            behind = get_or-set_other (linked_to w.behind (linked_at w.last m) (Some d)) d k None None (waits_apart k m waits)
                ∙ (ap (λ (o : Option ℕ). linked_at (linked_to w.behind o (Some d)) k) last
                ∙ get_or-set_at w.behind k k (Some d) None refl (omega (arith, within_row w.mailbox k m waits, are.rows.mailbox, are.rows.behind)));
          }
      link_front xs k (z ∷ zs) e =
          let old = (are.queued m l).links xs k (z ∷ zs) e in
          let here = cut_waits w m (queue_of w m) (are.queued m l) xs k (z ∷ zs) e in
          record {
            before = before_other k m here.0 ∙ old.before;
            behind = behind_other k m here.0 (λ f last same.
                let tail : last_from (Some k) (z ∷ zs) ≡ Some f = sym (last_append None xs k (z ∷ zs)) ∙ (sym (ap last_of e) ∙ (sym (are.queued m l).last ∙ last)) in
                let counts = last_counts (Some k) f z zs tail in
                let none_here : sum_by (one_for f) (z ∷ zs) ≡ 0 = subst (λ (j : ℕ). sum_by (one_for j) (z ∷ zs) ≡ 0) same here.2 in
                absurd (omega (arith, counts, none_here))) ∙ old.behind;
          }

      -- desk d is linked as the last of the queue that it joined
      link_last : (xs zs : List ℕ) (k : ℕ) (ys : List ℕ) → xs ≡ queue_of w m ++ zs → d ∷ [] ≡ zs ++ k ∷ ys → Linked (joined_rows w m d) xs k ys
      link_last xs [] k ys front rest =
          let same : k ≡ d = cc in
          let end : ys ≡ [] = cc in
          let all : last_of xs ≡ last_of (queue_of w m) = ap last_of front ∙ last_append_none None (queue_of w m) in
          record {
            before = get_or-set_at w.before d k (linked_at w.last m) None same (omega (arith, within, are.rows.mailbox, are.rows.before))
                ∙ ((are.queued m l).last ∙ sym all);
            behind = get_or-set_at (linked_to w.behind (linked_at w.last m) (Some d)) d k None None same
                (omega (arith, within, are.rows.mailbox, are.rows.behind, length_linked_to w.behind (linked_at w.last m) (Some d)))
                ∙ ap first_of (sym end);
          }
      link_last xs (z ∷ zs) k ys front rest =
          let end : [] ≡ zs ++ k ∷ ys = cc in
          absurd (not_empty zs k ys end)

      links : (xs : List ℕ) (k : ℕ) (ys : List ℕ) → Cut (queue_of w m) (d ∷ []) xs k ys → Linked (joined_rows w m d) xs k ys
      links xs k ys (in_front zs front rest) = subst (λ (l : List ℕ). Linked (joined_rows w m d) xs k l) (sym rest) (link_front xs k zs front)
      links xs k ys (in_rest zs front rest) = link_last xs zs k ys front rest

  joined_unlinked : (k n : ℕ) → linked_at (joined_rows w m d).mailbox k ≡ Some n → length (joined_rows w m d).first ≤ n → Linked (joined_rows w m d) [] k []
  joined_unlinked k n waits past = by (k == d) refl
    where
      past' : length w.first ≤ n
      past' = omega (arith, past, length_ended_at w.first (linked_at w.last m) m (Some d))

      by : (b : Bool) → (k == d) ≡ b → Linked (joined_rows w m d) [] k []
      by true e =
          let same = eqb-true k d e in
          let here : Some m ≡ Some n = sym (mailbox_here k same) ∙ waits in
          let to : m ≡ n = cc in
          record {
            before = get_or-set_at w.before d k (linked_at w.last m) None same (omega (arith, within, are.rows.mailbox, are.rows.before))
                ∙ get_or_past w.last m None (omega (arith, past', to, are.rows.last));
            behind = get_or-set_at (linked_to w.behind (linked_at w.last m) (Some d)) d k None None same
                (omega (arith, within, are.rows.mailbox, are.rows.behind, length_linked_to w.behind (linked_at w.last m) (Some d)));
          }
      by false e =
          let waits' : linked_at w.mailbox k ≡ Some n = sym (mailbox_other k (eqb-false k d e)) ∙ waits in
          let old = are.unlinked k n waits' past' in
          record {
            before = before_other k n waits' ∙ old.before;
            behind = behind_other k n waits' (λ f last same.
                let l : m < length w.first = omega (arith, within_row w.last m f last, are.rows.last) in
                elsewhere_apart k n (λ g. absurd (omega (arith, l, past', g))) waits' f last same) ∙ old.behind;
          }

  pub joined_queues : (n : ℕ) → n ≡ count + 1 → AreQueues (joined_rows w m d) n
  joined_queues more one_more = record {
    counted = omega (arith, one_more, are.counted, sum_by-set one_waits w.mailbox d (Some m) None within, ap one_waits waits_not);
    rows = record {
      last = omega (arith, length-set w.last m (Some d), length_ended_at w.first (linked_at w.last m) m (Some d), are.rows.last);
      mailbox = omega (arith, length-set w.mailbox d (Some m), length_ended_at w.first (linked_at w.last m) m (Some d), are.rows.mailbox);
      before = omega (arith, length-set w.before d (linked_at w.last m), length_ended_at w.first (linked_at w.last m) m (Some d), are.rows.before);
      behind = omega (arith, length-set (linked_to w.behind (linked_at w.last m) (Some d)) d None, length_linked_to w.behind (linked_at w.last m) (Some d), length_ended_at w.first (linked_at w.last m) m (Some d), are.rows.behind);
    };
    unlinked = joined_unlinked;
    queued = λ n l. queued n (omega (arith, l, length_ended_at w.first (linked_at w.last m) m (Some d))) (n == m) refl;
  }
    where
      queued : (n : ℕ) → n < length w.first → (b : Bool) → (n == m) ≡ b → IsQueue (joined_rows w m d) n (queue_of (joined_rows w m d) n)
      queued n l true e =
          let same = eqb-true n m e in
          let here = joined_here (omega (arith, l, same)) in
          subst (λ (j : ℕ). IsQueue (joined_rows w m d) j (queue_of (joined_rows w m d) j)) (sym same)
          (subst (λ (q : List ℕ). IsQueue (joined_rows w m d) m q) (sym (walked (joined_rows w m d) m (queue_of w m ++ d ∷ []) here)) here)
      queued n l false e =
          let there = joined_else n l (eqb-false n m e) in
          subst (λ (q : List ℕ). IsQueue (joined_rows w m d) n q) (sym (walked (joined_rows w m d) n (queue_of w n) there)) there

  pub joined_last : m < length w.first → queue_of (joined_rows w m d) m ≡ queue_of w m ++ d ∷ []
  joined_last l = walked (joined_rows w m d) m (queue_of w m ++ d ∷ []) (joined_here l)

  pub joined_others : (n : ℕ) → n ≢ m → queue_of (joined_rows w m d) n ≡ queue_of w n
  joined_others n apart = elim (cases_lt n (length w.first)) [
    | inl l ↦ walked (joined_rows w m d) n (queue_of w n) (joined_else n l apart)
    | inr past ↦ queue_past (joined_rows w m d) n (omega (arith, past, length_ended_at w.first (linked_at w.last m) m (Some d))) ∙ sym (queue_past w n past)
  ]

-- the queues do not depend on which desks were called
pub marked : (w : Waits) (count : ℕ) (called : List Bool) → AreQueues w count → AreQueues (record w { called = called }) count
marked w count called are = record {
  counted = are.counted;
  rows = record { last = are.rows.last; mailbox = are.rows.mailbox; before = are.rows.before; behind = are.rows.behind };
  unlinked = λ d m waits past. let l = are.unlinked d m waits past in record { before = l.before; behind = l.behind };
  queued = λ m l.
      let q = are.queued m l in
      record { first = q.first; last = q.last; links = λ xs d ys e. let k = q.links xs d ys e in record { before = k.before; behind = k.behind }; once = q.once; as_many = q.as_many };
}

-- The queues after desk d leaves the queue of mailbox m

module _ (w : Waits) (count m d : ℕ) (are : AreQueues w count) (waits : linked_at w.mailbox d ≡ Some m) where
  -- the queue of mailbox m is cut at desk d
  cut_here : m < length w.first → CutAt d (queue_of w m)
  cut_here l = cut_at d (queue_of w m) (omega (arith, (are.queued m l).once d, ap (one_waits_at m) waits, waits_here m))

  -- the desk before desk d waits for the same mailbox as d
  before_waits : (e : ℕ) → linked_at w.before d ≡ Some e → linked_at w.mailbox e ≡ Some m
  before_waits e at = elim (cases_lt m (length w.first)) [
    | inl l ↦
        let c = cut_here l in
        let some = last_of_counts e c.front (sym ((are.queued m l).links c.front d c.rest c.is).before ∙ at) in
        counts_waits w m (queue_of w m) (are.queued m l) e
        (omega (arith, some, ap (λ (q : List ℕ). sum_by (one_for e) q) c.is, sum_by-append (one_for e) c.front (d ∷ c.rest)))
    | inr past ↦ absurd (none_some e (sym (are.unlinked d m waits past).before ∙ at))
  ]

  behind_waits : (e : ℕ) → linked_at w.behind d ≡ Some e → linked_at w.mailbox e ≡ Some m
  behind_waits e at = elim (cases_lt m (length w.first)) [
    | inl l ↦
        let c = cut_here l in
        let some = first_counts e c.rest (sym ((are.queued m l).links c.front d c.rest c.is).behind ∙ at) in
        counts_waits w m (queue_of w m) (are.queued m l) e
        (omega (arith, some, ap (λ (q : List ℕ). sum_by (one_for e) q) c.is, sum_by-append (one_for e) c.front (d ∷ c.rest), sum_by-cons (one_for e) d c.rest))
    | inr past ↦ absurd (none_some e (sym (are.unlinked d m waits past).behind ∙ at))
  ]

  -- two desks that wait for room in different mailboxes are different desks
  waits_else : (k n : ℕ) → n ≢ m → linked_at w.mailbox k ≡ Some n → (e : ℕ) → linked_at w.mailbox e ≡ Some m → k ≢ e
  waits_else k n apart there e here same =
      let both : linked_at w.mailbox k ≡ Some m = subst (λ (j : ℕ). linked_at w.mailbox j ≡ Some m) (sym same) here in
      apart (some_same n m (sym there ∙ both))

  within_mailbox : d < length w.mailbox
  within_mailbox = within_row w.mailbox d m waits

  gone : (k : ℕ) → k ≢ d → linked_at (set w.mailbox d None) k ≡ linked_at w.mailbox k
  gone k apart = get_or-set_other w.mailbox d k None None apart

  gone_here : (k : ℕ) → k ≡ d → linked_at (set w.mailbox d None) k ≡ None
  gone_here k same = get_or-set_at w.mailbox d k None None same within_mailbox

  left_before : (k : ℕ) → ((e : ℕ) → linked_at w.behind d ≡ Some e → k ≢ e) → linked_at (left_rows w m d).before k ≡ linked_at w.before k
  left_before k apart = linked_to_other w.before (linked_at w.behind d) (linked_at w.before d) k apart

  left_behind : (k : ℕ) → ((e : ℕ) → linked_at w.before d ≡ Some e → k ≢ e) → linked_at (left_rows w m d).behind k ≡ linked_at w.behind k
  left_behind k apart = linked_to_other w.behind (linked_at w.before d) (linked_at w.behind d) k apart

  left_else : (n : ℕ) → n < length w.first → n ≢ m → IsQueue (left_rows w m d) n (queue_of w n)
  left_else n l apart = untouched w n (queue_of w n) (are.queued n l) (left_rows w m d)
      (ended_at_other w.first (linked_at w.before d) m (linked_at w.behind d) n apart)
      (ended_at_other w.last (linked_at w.behind d) m (linked_at w.before d) n apart)
      (λ k there. left_before k (λ e at. waits_else k n apart there e (behind_waits e at)))
      (λ k there. left_behind k (λ e at. waits_else k n apart there e (before_waits e at)))
      (λ k. by k (k == d) refl)
      (omega (arith, sum_by-set (one_waits_at n) w.mailbox d None None within_mailbox, none))
    where
      none : one_waits_at n (linked_at w.mailbox d) ≡ 0
      none = ap (one_waits_at n) waits ∙ waits_elsewhere n m (λ f. apart (sym f))

      by : (k : ℕ) (b : Bool) → (k == d) ≡ b → one_waits_at n (linked_at (set w.mailbox d None) k) ≡ one_waits_at n (linked_at w.mailbox k)
      by k true e =
          let same = eqb-true k d e in
          ap (one_waits_at n) (gone_here k same) ∙ (sym none ∙ ap (λ (j : ℕ). one_waits_at n (linked_at w.mailbox j)) (sym same))
      by k false e = ap (one_waits_at n) (gone k (eqb-false k d e))

  before_is : (l : m < length w.first) (xs ys : List ℕ) → queue_of w m ≡ xs ++ d ∷ ys → linked_at w.before d ≡ last_of xs
  before_is l xs ys is = ((are.queued m l).links xs d ys is).before

  behind_is : (l : m < length w.first) (xs ys : List ℕ) → queue_of w m ≡ xs ++ d ∷ ys → linked_at w.behind d ≡ first_of ys
  behind_is l xs ys is = ((are.queued m l).links xs d ys is).behind

  counts : (l : m < length w.first) (xs ys : List ℕ) → queue_of w m ≡ xs ++ d ∷ ys → (k : ℕ)
      → sum_by (one_for k) xs + one_for k d + sum_by (one_for k) ys ≡ one_waits_at m (linked_at w.mailbox k)
  counts l xs ys is k = omega (arith, (are.queued m l).once k, ap (λ (q : List ℕ). sum_by (one_for k) q) is, sum_by-append (one_for k) xs (d ∷ ys), sum_by-cons (one_for k) d ys)

  at_most_one : (l : m < length w.first) (xs ys : List ℕ) → queue_of w m ≡ xs ++ d ∷ ys → (k : ℕ) → sum_by (one_for k) xs + sum_by (one_for k) ys ≤ 1
  at_most_one l xs ys is k = omega (arith, counts l xs ys is k, waits_le m (linked_at w.mailbox k))

  left_first : (l : m < length w.first) (xs ys : List ℕ) → queue_of w m ≡ xs ++ d ∷ ys → linked_at (left_rows w m d).first m ≡ first_of (xs ++ ys)
  left_first l [] ys is = ended_here w.first (linked_at w.before d) m (linked_at w.behind d) (before_is l [] ys is) l ∙ behind_is l [] ys is
  left_first l (x ∷ xs) ys is = by (linked_at w.before d) refl
    where
      by : (o : Option ℕ) → linked_at w.before d ≡ o → linked_at (ended_at w.first (linked_at w.before d) m (linked_at w.behind d)) m ≡ Some x
      by None n = absurd (some_last x xs (sym (before_is l (x ∷ xs) ys is) ∙ n))
      by (Some e) n = ended_else w.first (linked_at w.before d) m (linked_at w.behind d) e n ∙ ((are.queued m l).first ∙ ap first_of is)

  left_last : (l : m < length w.first) (xs ys : List ℕ) → queue_of w m ≡ xs ++ d ∷ ys → linked_at (left_rows w m d).last m ≡ last_of (xs ++ ys)
  left_last l xs [] is =
      ended_here w.last (linked_at w.behind d) m (linked_at w.before d) (behind_is l xs [] is) (omega (arith, l, are.rows.last))
      ∙ (before_is l xs [] is ∙ sym (last_append_none None xs))
  left_last l xs (y ∷ ys) is =
      ended_else w.last (linked_at w.behind d) m (linked_at w.before d) y (behind_is l xs (y ∷ ys) is)
      ∙ ((are.queued m l).last ∙ (ap last_of is ∙ (last_append None xs d (y ∷ ys) ∙ sym (last_append None xs y ys))))

  -- the desks before desk d have the same links as before, except the last of them
  front_links : (l : m < length w.first) (xs ys : List ℕ) → queue_of w m ≡ xs ++ d ∷ ys → (ahead : List ℕ) (k : ℕ) (zs : List ℕ) → xs ≡ ahead ++ k ∷ zs
      → Linked (left_rows w m d) ahead k (zs ++ ys)
  front_links l xs ys is ahead k zs front = record {
    before = left_before k (λ e at same.
        let some = first_counts e ys (sym (behind_is l xs ys is) ∙ at) in
        let here : sum_by (one_for e) xs ≡ sum_by (one_for e) ahead + sum_by (one_for e) zs + 1 = subst (λ (j : ℕ). sum_by (one_for j) xs ≡ sum_by (one_for j) ahead + sum_by (one_for j) zs + 1) same once in
        absurd (omega (arith, some, here, at_most_one l xs ys is e))) ∙ old.before;
    behind = behind zs front;
  }
    where
      once : sum_by (one_for k) xs ≡ sum_by (one_for k) ahead + sum_by (one_for k) zs + 1
      once = ap (λ (q : List ℕ). sum_by (one_for k) q) front ∙ count_split k ahead zs

      whole : (zs : List ℕ) → xs ≡ ahead ++ k ∷ zs → queue_of w m ≡ ahead ++ k ∷ (zs ++ d ∷ ys)
      whole zs front = is ∙ (ap (λ (q : List ℕ). q ++ d ∷ ys) front ∙ append_assoc ahead (k ∷ zs) (d ∷ ys))

      old : Linked w ahead k (zs ++ d ∷ ys)
      old = (are.queued m l).links ahead k (zs ++ d ∷ ys) (whole zs front)

      behind : (zs : List ℕ) → xs ≡ ahead ++ k ∷ zs → linked_at (left_rows w m d).behind k ≡ first_of (zs ++ ys)
      behind [] front =
          let last : linked_at w.before d ≡ Some k = before_is l xs ys is ∙ (ap last_of front ∙ last_append None ahead k []) in
          let in_row = within_row w.mailbox k m (before_waits k last) in
          linked_to_here w.behind (linked_at w.before d) (linked_at w.behind d) k last (omega (arith, in_row, are.rows.mailbox, are.rows.behind))
          ∙ behind_is l xs ys is
      behind (z ∷ zs) front = left_behind k (λ e at same.
          let tail : last_from (Some k) (z ∷ zs) ≡ Some e = sym (last_append None ahead k (z ∷ zs)) ∙ (sym (ap last_of front) ∙ (sym (before_is l xs ys is) ∙ at)) in
          let some = last_counts (Some k) e z zs tail in
          let twice : sum_by (one_for k) xs ≡ sum_by (one_for k) ahead + sum_by (one_for k) (z ∷ zs) + 1 = ap (λ (q : List ℕ). sum_by (one_for k) q) front ∙ count_split k ahead (z ∷ zs) in
          let here : sum_by (one_for e) xs ≡ sum_by (one_for e) ahead + sum_by (one_for e) (z ∷ zs) + 1 = subst (λ (j : ℕ). sum_by (one_for j) xs ≡ sum_by (one_for j) ahead + sum_by (one_for j) (z ∷ zs) + 1) same twice in
          absurd (omega (arith, some, here, at_most_one l xs ys is e)))
          ∙ ((are.queued m l).links ahead k ((z ∷ zs) ++ d ∷ ys) (whole (z ∷ zs) front)).behind

  -- the desks behind desk d have the same links as before, except the first of them
  rest_links : (l : m < length w.first) (xs ys : List ℕ) → queue_of w m ≡ xs ++ d ∷ ys → (zs : List ℕ) (k : ℕ) (bs : List ℕ) → ys ≡ zs ++ k ∷ bs
      → Linked (left_rows w m d) (xs ++ zs) k bs
  rest_links l xs ys is zs k bs rest = record {
    before = before zs rest;
    behind = left_behind k (λ e at same.
        let some = last_of_counts e xs (sym (before_is l xs ys is) ∙ at) in
        let here : sum_by (one_for e) ys ≡ sum_by (one_for e) zs + sum_by (one_for e) bs + 1 = subst (λ (j : ℕ). sum_by (one_for j) ys ≡ sum_by (one_for j) zs + sum_by (one_for j) bs + 1) same (once zs rest) in
        absurd (omega (arith, some, here, at_most_one l xs ys is e))) ∙ (old zs rest).behind;
  }
    where
      once : (zs : List ℕ) → ys ≡ zs ++ k ∷ bs → sum_by (one_for k) ys ≡ sum_by (one_for k) zs + sum_by (one_for k) bs + 1
      once zs rest = ap (λ (q : List ℕ). sum_by (one_for k) q) rest ∙ count_split k zs bs

      old : (zs : List ℕ) → ys ≡ zs ++ k ∷ bs → Linked w (xs ++ d ∷ zs) k bs
      old zs rest = (are.queued m l).links (xs ++ d ∷ zs) k bs (is ∙ (ap (λ (q : List ℕ). xs ++ d ∷ q) rest ∙ sym (append_assoc xs (d ∷ zs) (k ∷ bs))))

      before : (zs : List ℕ) → ys ≡ zs ++ k ∷ bs → linked_at (left_rows w m d).before k ≡ last_of (xs ++ zs)
      before [] rest =
          let next : linked_at w.behind d ≡ Some k = behind_is l xs ys is ∙ ap first_of rest in
          let in_row = within_row w.mailbox k m (behind_waits k next) in
          linked_to_here w.before (linked_at w.behind d) (linked_at w.before d) k next (omega (arith, in_row, are.rows.mailbox, are.rows.before))
          ∙ (before_is l xs ys is ∙ sym (last_append_none None xs))
      before (z ∷ zs) rest = left_before k (λ e at same.
          let next : Some z ≡ Some e = sym (ap first_of rest) ∙ (sym (behind_is l xs ys is) ∙ at) in
          let is_z : e ≡ z = sym (some_same z e next) in
          let twice : sum_by (one_for k) ys ≡ sum_by (one_for k) (z ∷ zs) + sum_by (one_for k) bs + 1 = once (z ∷ zs) rest in
          let one : one_for k z ≡ 1 = ap (λ (j : ℕ). one_for k j) (sym is_z ∙ sym same) ∙ one_same k in
          absurd (omega (arith, twice, one, sum_by-cons (one_for k) z zs, at_most_one l xs ys is k)))
          ∙ ((old (z ∷ zs) rest).before ∙ (last_append None xs d (z ∷ zs) ∙ sym (last_append None xs z zs)))

  left_here : (l : m < length w.first) (xs ys : List ℕ) → queue_of w m ≡ xs ++ d ∷ ys → IsQueue (left_rows w m d) m (xs ++ ys)
  left_here l xs ys is = record {
    first = left_first l xs ys is;
    last = left_last l xs ys is;
    links = λ ahead k bs e. links ahead k bs (cut xs ys ahead k bs e);
    once = λ k. once k (k == d) refl;
    as_many = omega (arith, length-append xs ys, length-append xs (d ∷ ys), ap (λ (q : List ℕ). length q) is, (are.queued m l).as_many, sum_by-set (one_waits_at m) w.mailbox d None None within_mailbox, one);
  }
    where
      one : one_waits_at m (linked_at w.mailbox d) ≡ 1
      one = ap (one_waits_at m) waits ∙ waits_here m

      links : (ahead : List ℕ) (k : ℕ) (bs : List ℕ) → Cut xs ys ahead k bs → Linked (left_rows w m d) ahead k bs
      links ahead k bs (in_front zs front rest) = subst (λ (q : List ℕ). Linked (left_rows w m d) ahead k q) (sym rest) (front_links l xs ys is ahead k zs front)
      links ahead k bs (in_rest zs front rest) = subst (λ (q : List ℕ). Linked (left_rows w m d) q k bs) (sym front) (rest_links l xs ys is zs k bs rest)

      once : (k : ℕ) (b : Bool) → (k == d) ≡ b → sum_by (one_for k) (xs ++ ys) ≡ one_waits_at m (linked_at (set w.mailbox d None) k)
      once k true e =
          let same = eqb-true k d e in
          let is_one : one_for k d ≡ 1 = ap (λ (j : ℕ). one_for j d) same ∙ one_same d in
          let new : one_waits_at m (linked_at (set w.mailbox d None) k) ≡ 0 = ap (one_waits_at m) (gone_here k same) in
          omega (arith, sum_by-append (one_for k) xs ys, counts l xs ys is k, waits_le m (linked_at w.mailbox k), is_one, new)
      once k false e =
          let apart = eqb-false k d e in
          let not_one : one_for k d ≡ 0 = one_other k d (λ f. apart (sym f)) in
          let new : one_waits_at m (linked_at (set w.mailbox d None) k) ≡ one_waits_at m (linked_at w.mailbox k) = ap (one_waits_at m) (gone k apart) in
          omega (arith, sum_by-append (one_for k) xs ys, counts l xs ys is k, not_one, new)

  left_unlinked : (k n : ℕ) → linked_at (left_rows w m d).mailbox k ≡ Some n → length (left_rows w m d).first ≤ n → Linked (left_rows w m d) [] k []
  left_unlinked k n there past = by (k == d) refl
    where
      past_rows : length w.first ≤ n
      past_rows = omega (arith, past, length_ended_at w.first (linked_at w.before d) m (linked_at w.behind d))

      by : (b : Bool) → (k == d) ≡ b → Linked (left_rows w m d) [] k []
      by true e = absurd (none_some n (sym (gone_here k (eqb-true k d e)) ∙ there))
      by false e =
          let there_before : linked_at w.mailbox k ≡ Some n = sym (gone k (eqb-false k d e)) ∙ there in
          let was = are.unlinked k n there_before past_rows in
          -- if desk k is next to desk d, then k waits for the same mailbox as d
          let alone : (o : ℕ) → linked_at w.mailbox o ≡ Some m → k ≡ o → n ≡ m = (λ o here same. some_same n m (sym there_before ∙ subst (λ (j : ℕ). linked_at w.mailbox j ≡ Some m) (sym same) here)) in
          record {
            before = left_before k (λ o at same. none_some o (sym (are.unlinked d m waits (omega (arith, past_rows, alone o (behind_waits o at) same))).behind ∙ at)) ∙ was.before;
            behind = left_behind k (λ o at same. none_some o (sym (are.unlinked d m waits (omega (arith, past_rows, alone o (before_waits o at) same))).before ∙ at)) ∙ was.behind;
          }

  pub some_waits : 1 ≤ count
  some_waits = omega (arith, are.counted, sum_by-set one_waits w.mailbox d None None within_mailbox, ap one_waits waits)

  pub left_queues : (n : ℕ) → n + 1 ≡ count → AreQueues (left_rows w m d) n
  left_queues left one_less = record {
    counted = omega (arith, one_less, are.counted, sum_by-set one_waits w.mailbox d None None within_mailbox, ap one_waits waits);
    rows = record {
      last = omega (arith, length_ended_at w.last (linked_at w.behind d) m (linked_at w.before d), firsts, are.rows.last);
      mailbox = omega (arith, length-set w.mailbox d None, firsts, are.rows.mailbox);
      before = omega (arith, length_linked_to w.before (linked_at w.behind d) (linked_at w.before d), firsts, are.rows.before);
      behind = omega (arith, length_linked_to w.behind (linked_at w.before d) (linked_at w.behind d), firsts, are.rows.behind);
    };
    unlinked = left_unlinked;
    queued = λ n l. queued n (omega (arith, l, firsts)) (n == m) refl;
  }
    where
      firsts : length (left_rows w m d).first ≡ length w.first
      firsts = length_ended_at w.first (linked_at w.before d) m (linked_at w.behind d)

      queued : (n : ℕ) → n < length w.first → (b : Bool) → (n == m) ≡ b → IsQueue (left_rows w m d) n (queue_of (left_rows w m d) n)
      queued n l true e =
          let same = eqb-true n m e in
          let in_m : m < length w.first = omega (arith, l, same) in
          let c = cut_here in_m in
          let here = left_here in_m c.front c.rest c.is in
          subst (λ (j : ℕ). IsQueue (left_rows w m d) j (queue_of (left_rows w m d) j)) (sym same)
          (subst (λ (q : List ℕ). IsQueue (left_rows w m d) m q) (sym (walked (left_rows w m d) m (c.front ++ c.rest) here)) here)
      queued n l false e =
          let there = left_else n l (eqb-false n m e) in
          subst (λ (q : List ℕ). IsQueue (left_rows w m d) n q) (sym (walked (left_rows w m d) n (queue_of w n) there)) there

  pub left_without : (n : ℕ) → queue_of (left_rows w m d) n ≡ without d (queue_of w n)
  left_without n = by (n == m) refl
    where
      others : n ≢ m → linked_at w.mailbox d ≢ Some n
      others apart at = apart (some_same n m (sym at ∙ waits))

      by : (b : Bool) → (n == m) ≡ b → queue_of (left_rows w m d) n ≡ without d (queue_of w n)
      by true e = subst (λ (j : ℕ). queue_of (left_rows w m d) j ≡ without d (queue_of w j)) (sym (eqb-true n m e)) (elim (cases_lt m (length w.first)) [
        | inl l ↦
            let c = cut_here l in
            let a = cut_waits w m (queue_of w m) (are.queued m l) c.front d c.rest c.is in
            walked (left_rows w m d) m (c.front ++ c.rest) (left_here l c.front c.rest c.is) ∙ (sym (without_cut d c.front c.rest a.1 a.2) ∙ ap (without d) (sym c.is))
        | inr past ↦
            queue_past (left_rows w m d) m (omega (arith, past, length_ended_at w.first (linked_at w.before d) m (linked_at w.behind d)))
            ∙ ap (without d) (sym (queue_past w m past))
      ])
      by false e = elim (cases_lt n (length w.first)) [
        | inl l ↦ walked (left_rows w m d) n (queue_of w n) (left_else n l (eqb-false n m e)) ∙ sym (not_in w count are d n (others (eqb-false n m e)))
        | inr past ↦
            queue_past (left_rows w m d) n (omega (arith, past, length_ended_at w.first (linked_at w.before d) m (linked_at w.behind d)))
            ∙ ap (without d) (sym (queue_past w n past))
      ]

-- the first desk of a queue stands in no other queue, and the queue is this desk and the desks behind it
pub called_first : (w : Waits) (count m d : ℕ) → AreQueues w count → linked_at w.first m ≡ Some d
    → (queue_of w m ≡ d ∷ without d (queue_of w m)) × (linked_at w.mailbox d ≡ Some m)
called_first w count m d are first =
    let l : m < length w.first = within_row w.first m d first in
    let q = are.queued m l in
    by q (queue_of w m) refl (sym q.first ∙ first)
  where
    by : IsQueue w m (queue_of w m) → (ds : List ℕ) → queue_of w m ≡ ds → first_of (queue_of w m) ≡ Some d
        → (queue_of w m ≡ d ∷ without d (queue_of w m)) × (linked_at w.mailbox d ≡ Some m)
    by q [] is f = absurd (none_some d (sym (ap first_of is) ∙ f))
    by q (x ∷ xs) is f =
        let same : x ≡ d = some_same x d (sym (ap first_of is) ∙ f) in
        let whole : queue_of w m ≡ [] ++ d ∷ xs = is ∙ ap (λ (n : ℕ). n ∷ xs) same in
        let a = cut_waits w m (queue_of w m) q [] d xs whole in (
          whole ∙ ap (λ (l : List ℕ). d ∷ l) (sym (ap (without d) whole ∙ without_cut d [] xs a.1 a.2)),
          a.0,
        )
