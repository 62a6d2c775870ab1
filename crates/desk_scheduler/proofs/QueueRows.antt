-- The list of desks in a mailbox's queue, and the links that are stored for these desks.
use Rattle.std.proofs.Common.{◌≡◌, ◌≢◌, ℕ, zero, suc, ◌+◌, ◌<◌, ◌≤◌, ◌==◌, inl, inr, Bool, true, false, cond, List, [], ◌∷◌, ◌++◌, Option, Some, None, length, get_or, refl, sym, ap, ◌∙◌, arith, append_assoc}
use Rattle.std.specs.Prelude.{sum_by}
use Rattle.std.proofs.lemmas.Bool.{eqb-true, eqb-false, cases_lt}
use Rattle.std.proofs.lemmas.Grind.{get_or-set_at}
use Rattle.std.proofs.lemmas.List.{get_or-set_other, get_or_past, length-set}
use Rattle.std.proofs.lemmas.List.Sums.{sum_by-le, sum_by-append, sum_by-cons}
use Rattle.desk_scheduler.specs.Desks.{one_for}
use Rattle.desk_scheduler.specs.Waits.{Waits, linked_at, one_waits, one_waits_at, waiting_from, queue_of, first_of, last_from, last_of, without, linked_to, ended_at, IsQueue, AreQueues}

-- Facts about numbers and lists, which name no queue

pub eqb_same : (n : ℕ) → (n == n) ≡ true
eqb_same n = by (n == n) refl
  where
    by : (b : Bool) → (n == n) ≡ b → (n == n) ≡ true
    by true e = e
    by false e = absurd (eqb-false n n e refl)

pub eqb_other : (m n : ℕ) → m ≢ n → (m == n) ≡ false
eqb_other m n apart = by (m == n) refl
  where
    by : (b : Bool) → (m == n) ≡ b → (m == n) ≡ false
    by true e = absurd (apart (eqb-true m n e))
    by false e = e

pub one_same : (d : ℕ) → one_for d d ≡ 1
one_same d = ap (λ (b : Bool). cond b 1 0) (eqb_same d)

pub one_other : (d x : ℕ) → x ≢ d → one_for d x ≡ 0
one_other d x apart = ap (λ (b : Bool). cond b 1 0) (eqb_other x d apart)

pub none_some : (d : ℕ) → None ≢ Some d
none_some d e = cc

pub some_same : (m n : ℕ) → Some m ≡ Some n → m ≡ n
some_same m n e = cc

-- in a list where desk d stands between xs and ys, d counts once more than in xs and ys together
pub count_split : (d : ℕ) (xs ys : List ℕ) → sum_by (one_for d) (xs ++ d ∷ ys) ≡ sum_by (one_for d) xs + sum_by (one_for d) ys + 1
count_split d xs ys = omega (arith, sum_by-append (one_for d) xs (d ∷ ys), sum_by-cons (one_for d) d ys, one_same d)

-- the first desk of a list is counted in the list
pub first_counts : (d : ℕ) (ys : List ℕ) → first_of ys ≡ Some d → 1 ≤ sum_by (one_for d) ys
first_counts d [] e = absurd (cc)
first_counts d (y ∷ ys) e =
    let same : y ≡ d = cc in
    omega (arith, sum_by-cons (one_for d) y ys, ap (one_for d) same, one_same d)

pub last_counts : (o : Option ℕ) (d : ℕ) (x : ℕ) (xs : List ℕ) → last_from o (x ∷ xs) ≡ Some d → 1 ≤ sum_by (one_for d) (x ∷ xs)
last_counts o d x [] e =
    let same : x ≡ d = cc in
    omega (arith, sum_by-cons (one_for d) x [], ap (one_for d) same, one_same d)
last_counts o d x (y ∷ ys) e = omega (arith, sum_by-cons (one_for d) x (y ∷ ys), last_counts (Some x) d y ys e)

pub last_of_counts : (d : ℕ) (xs : List ℕ) → last_of xs ≡ Some d → 1 ≤ sum_by (one_for d) xs
last_of_counts d [] e = absurd (cc)
last_of_counts d (x ∷ xs) e = last_counts None d x xs e

pub last_append : (o : Option ℕ) (xs : List ℕ) (d : ℕ) (ys : List ℕ) → last_from o (xs ++ d ∷ ys) ≡ last_from (Some d) ys
last_append o [] d ys = refl
last_append o (x ∷ xs) d ys = last_append (Some x) xs d ys

pub last_append_none : (o : Option ℕ) (xs : List ℕ) → last_from o (xs ++ []) ≡ last_from o xs
last_append_none o [] = refl
last_append_none o (x ∷ xs) = last_append_none (Some x) xs

pub some_last : (x : ℕ) (xs : List ℕ) → last_from (Some x) xs ≢ None
some_last x [] e = cc
some_last x (y ∷ ys) e = some_last y ys e

pub not_empty : (zs : List ℕ) (k : ℕ) (ys : List ℕ) → [] ≢ zs ++ k ∷ ys
not_empty [] k ys e = cc
not_empty (z ∷ zs) k ys e = cc

-- an item at which two joined lists are cut stands in the first list or in the second list
pub data Cut (xs ys ahead : List ℕ) (k : ℕ) (bs : List ℕ) : Type 0 where
  in_front : (zs : List ℕ) → xs ≡ ahead ++ k ∷ zs → bs ≡ zs ++ ys → Cut xs ys ahead k bs
  in_rest : (zs : List ℕ) → ahead ≡ xs ++ zs → ys ≡ zs ++ k ∷ bs → Cut xs ys ahead k bs

pub cut : (xs ys ahead : List ℕ) (k : ℕ) (bs : List ℕ) → xs ++ ys ≡ ahead ++ k ∷ bs → Cut xs ys ahead k bs
cut [] ys ahead k bs e = in_rest ahead refl e
cut (x ∷ xs) ys [] k bs e = in_front xs (cc) (cc)
cut (x ∷ xs) ys (a ∷ ahead) k bs e =
    let head : x ≡ a = cc in
    let tail : xs ++ ys ≡ ahead ++ k ∷ bs = cc in
    go head (cut xs ys ahead k bs tail)
  where
    go : x ≡ a → Cut xs ys ahead k bs → Cut (x ∷ xs) ys (a ∷ ahead) k bs
    go head (in_front zs f r) = in_front zs (cc) r
    go head (in_rest zs f r) = in_rest zs (cc) r

-- if a desk is counted in a list, the list can be cut at this desk
pub record CutAt (d : ℕ) (queue : List ℕ) : Type 0 where
  pub front : List ℕ
  pub rest : List ℕ
  pub is : queue ≡ front ++ d ∷ rest

pub cut_at : (d : ℕ) (queue : List ℕ) → 1 ≤ sum_by (one_for d) queue → CutAt d queue
cut_at d [] some = absurd (omega (arith, some))
cut_at d (x ∷ xs) some = by (λ more. cut_at d xs more) (x == d) refl
  where
    by : (1 ≤ sum_by (one_for d) xs → CutAt d xs) → (b : Bool) → (x == d) ≡ b → CutAt d (x ∷ xs)
    by later true e = record { front = []; rest = xs; is = ap (λ (n : ℕ). n ∷ xs) (eqb-true x d e) }
    by later false e =
        let less : one_for d x ≡ 0 = ap (λ (b : Bool). cond b 1 0) e in
        let more = later (omega (arith, some, sum_by-cons (one_for d) x xs, less)) in
        record { front = x ∷ more.front; rest = more.rest; is = ap (λ (l : List ℕ). x ∷ l) more.is }

pub without_none : (d : ℕ) (xs : List ℕ) → sum_by (one_for d) xs ≡ 0 → without d xs ≡ xs
without_none d [] none = refl
without_none d (x ∷ xs) none = by (λ rest. without_none d xs rest) (x == d) refl
  where
    by : (sum_by (one_for d) xs ≡ 0 → without d xs ≡ xs) → (b : Bool) → (x == d) ≡ b → without d (x ∷ xs) ≡ x ∷ xs
    by later true e =
        let one : one_for d x ≡ 1 = ap (λ (b : Bool). cond b 1 0) e in
        absurd (omega (arith, none, sum_by-cons (one_for d) x xs, one))
    by later false e =
        let zero_here : one_for d x ≡ 0 = ap (λ (b : Bool). cond b 1 0) e in
        ap (λ (b : Bool). cond b (without d xs) (x ∷ without d xs)) e
        ∙ ap (λ (l : List ℕ). x ∷ l) (later (omega (arith, none, sum_by-cons (one_for d) x xs, zero_here)))

pub without_cut : (d : ℕ) (xs ys : List ℕ) → sum_by (one_for d) xs ≡ 0 → sum_by (one_for d) ys ≡ 0 → without d (xs ++ d ∷ ys) ≡ xs ++ ys
without_cut d [] ys none rest = ap (λ (b : Bool). cond b (without d ys) (d ∷ without d ys)) (eqb_same d) ∙ without_none d ys rest
without_cut d (x ∷ xs) ys none rest = by (λ front. without_cut d xs ys front rest) (x == d) refl
  where
    by : (sum_by (one_for d) xs ≡ 0 → without d (xs ++ d ∷ ys) ≡ xs ++ ys) → (b : Bool) → (x == d) ≡ b → without d (x ∷ (xs ++ d ∷ ys)) ≡ x ∷ (xs ++ ys)
    by later true e =
        let one : one_for d x ≡ 1 = ap (λ (b : Bool). cond b 1 0) e in
        absurd (omega (arith, none, sum_by-cons (one_for d) x xs, one))
    by later false e =
        let zero_here : one_for d x ≡ 0 = ap (λ (b : Bool). cond b 1 0) e in
        ap (λ (b : Bool). cond b (without d (xs ++ d ∷ ys)) (x ∷ without d (xs ++ d ∷ ys))) e
        ∙ ap (λ (l : List ℕ). x ∷ l) (later (omega (arith, none, sum_by-cons (one_for d) x xs, zero_here)))

-- Facts about the stored links of a mailbox's queue

pub waits_le : (m : ℕ) (o : Option ℕ) → one_waits_at m o ≤ 1
waits_le m None = omega arith
waits_le m (Some n) = by (n == m)
  where
    by : (b : Bool) → cond b 1 0 ≤ 1
    by true = omega arith
    by false = omega arith

pub waits_le_any : (m : ℕ) (o : Option ℕ) → one_waits_at m o ≤ one_waits o
waits_le_any m None = omega arith
waits_le_any m (Some n) = waits_le m (Some n)

pub waits_here : (m : ℕ) → one_waits_at m (Some m) ≡ 1
waits_here m = ap (λ (b : Bool). cond b 1 0) (eqb_same m)

pub waits_elsewhere : (m n : ℕ) → n ≢ m → one_waits_at m (Some n) ≡ 0
waits_elsewhere m n apart = ap (λ (b : Bool). cond b 1 0) (eqb_other n m apart)

pub waits_where : (m : ℕ) (o : Option ℕ) → one_waits_at m o ≡ 1 → o ≡ Some m
waits_where m None one = absurd (omega (arith, one))
waits_where m (Some n) one = by (n == m) refl
  where
    by : (b : Bool) → (n == m) ≡ b → Some n ≡ Some m
    by true e = ap (λ (k : ℕ). Some k) (eqb-true n m e)
    by false e =
        let none : one_waits_at m (Some n) ≡ 0 = ap (λ (b : Bool). cond b 1 0) e in
        absurd (omega (arith, one, none))

pub waiting_none : (behind : List (Option ℕ)) (most : ℕ) → waiting_from behind most None ≡ []
waiting_none behind zero = refl
waiting_none behind (suc most) = refl

-- a desk with a stored link has a number below the number of desks
pub within_row : (row : List (Option ℕ)) (d m : ℕ) → get_or row d None ≡ Some m → d < length row
within_row row d m at = elim (cases_lt d (length row)) [
  | inl l ↦ l
  | inr past ↦ absurd (none_some m (sym (get_or_past row d None past) ∙ at))
]

pub waits_sum : (m : ℕ) (row : List (Option ℕ)) → sum_by (one_waits_at m) row ≤ sum_by one_waits row
waits_sum m [] = omega arith
waits_sum m (o ∷ os) = omega (arith, sum_by-cons (one_waits_at m) o os, sum_by-cons one_waits o os, waits_le_any m o, waits_sum m os)

module _ (w : Waits) (m : ℕ) (queue : List ℕ) (is : IsQueue w m queue) where
  -- a desk in the queue of a mailbox waits for this mailbox, and stands in the queue once
  pub cut_waits : (xs : List ℕ) (d : ℕ) (ys : List ℕ) → queue ≡ xs ++ d ∷ ys
      → (linked_at w.mailbox d ≡ Some m) × (sum_by (one_for d) xs ≡ 0) × (sum_by (one_for d) ys ≡ 0)
  cut_waits xs d ys e =
      let n = is.once d in
      let c = ap (λ (l : List ℕ). sum_by (one_for d) l) e in
      let s = count_split d xs ys in
      let l = waits_le m (linked_at w.mailbox d) in (
        waits_where m (linked_at w.mailbox d) (omega (arith, n, c, s, l)),
        omega (arith, n, c, s, l),
        omega (arith, n, c, s, l),
      )

  -- a desk that is counted in the queue of a mailbox waits for this mailbox
  pub counts_waits : (d : ℕ) → 1 ≤ sum_by (one_for d) queue → linked_at w.mailbox d ≡ Some m
  counts_waits d some = waits_where m (linked_at w.mailbox d) (omega (arith, some, is.once d, waits_le m (linked_at w.mailbox d)))

  -- a walk along the links finds the whole queue
  pub walked : queue_of w m ≡ queue
  walked =
      let most : length queue ≤ length w.mailbox = omega (arith, is.as_many, sum_by-le (one_waits_at m) 1 w.mailbox (λ k e l. waits_le m (get_or w.mailbox k e))) in
      ap (λ (o : Option ℕ). waiting_from w.behind (length w.mailbox) o) is.first ∙ go [] queue (length w.mailbox) refl most
    where
      go : (xs ys : List ℕ) (most : ℕ) → queue ≡ xs ++ ys → length ys ≤ most → waiting_from w.behind most (first_of ys) ≡ ys
      go xs [] most e l = waiting_none w.behind most
      go xs (y ∷ ys) zero e l = absurd (omega (arith, l))
      go xs (y ∷ ys) (suc most) e l =
          let next = (is.links xs y ys e).behind in
          let later : queue ≡ (xs ++ y ∷ []) ++ ys = e ∙ sym (append_assoc xs (y ∷ []) ys) in
          ap (λ (o : Option ℕ). y ∷ waiting_from w.behind most o) next
          ∙ ap (λ (l : List ℕ). y ∷ l) (go (xs ++ y ∷ []) ys most later (omega (arith, l)))

  -- a change that leaves the links of a queue's desks and its two ends alone leaves the queue as it is
  pub untouched : (v : Waits) → linked_at v.first m ≡ linked_at w.first m → linked_at v.last m ≡ linked_at w.last m
      → ((d : ℕ) → linked_at w.mailbox d ≡ Some m → linked_at v.before d ≡ linked_at w.before d)
      → ((d : ℕ) → linked_at w.mailbox d ≡ Some m → linked_at v.behind d ≡ linked_at w.behind d)
      → ((d : ℕ) → one_waits_at m (linked_at v.mailbox d) ≡ one_waits_at m (linked_at w.mailbox d))
      → sum_by (one_waits_at m) v.mailbox ≡ sum_by (one_waits_at m) w.mailbox → IsQueue v m queue
  untouched v first last before behind mailbox sum = record {
    first = first ∙ is.first;
    last = last ∙ is.last;
    links = λ xs d ys e.
        let here = (cut_waits xs d ys e).0 in
        record { before = before d here ∙ (is.links xs d ys e).before; behind = behind d here ∙ (is.links xs d ys e).behind };
    once = λ d. is.once d ∙ sym (mailbox d);
    as_many = is.as_many ∙ sym sum;
  }

pub linked_to_other : (row : List (Option ℕ)) (o to : Option ℕ) (k : ℕ) → ((e : ℕ) → o ≡ Some e → k ≢ e) → linked_at (linked_to row o to) k ≡ linked_at row k
linked_to_other row None to k apart = refl
linked_to_other row (Some e) to k apart = get_or-set_other row e k to None (apart e refl)

pub ended_at_other : (row : List (Option ℕ)) (o : Option ℕ) (m : ℕ) (to : Option ℕ) (k : ℕ) → k ≢ m → linked_at (ended_at row o m to) k ≡ linked_at row k
ended_at_other row None m to k apart = get_or-set_other row m k to None apart
ended_at_other row (Some e) m to k apart = refl

pub length_linked_to : (row : List (Option ℕ)) (o to : Option ℕ) → length (linked_to row o to) ≡ length row
length_linked_to row None to = refl
length_linked_to row (Some e) to = length-set row e to

pub length_ended_at : (row : List (Option ℕ)) (o : Option ℕ) (m : ℕ) (to : Option ℕ) → length (ended_at row o m to) ≡ length row
length_ended_at row None m to = length-set row m to
length_ended_at row (Some e) m to = refl

pub linked_to_here : (row : List (Option ℕ)) (o to : Option ℕ) (k : ℕ) → o ≡ Some k → k < length row → linked_at (linked_to row o to) k ≡ to
linked_to_here row o to k is l = ap (λ (p : Option ℕ). linked_at (linked_to row p to) k) is ∙ get_or-set_at row k k to None refl l

pub ended_here : (row : List (Option ℕ)) (o : Option ℕ) (m : ℕ) (to : Option ℕ) → o ≡ None → m < length row → linked_at (ended_at row o m to) m ≡ to
ended_here row o m to is l = ap (λ (p : Option ℕ). linked_at (ended_at row p m to) m) is ∙ get_or-set_at row m m to None refl l

pub ended_else : (row : List (Option ℕ)) (o : Option ℕ) (m : ℕ) (to : Option ℕ) (e : ℕ) → o ≡ Some e → linked_at (ended_at row o m to) m ≡ linked_at row m
ended_else row o m to e is = ap (λ (p : Option ℕ). linked_at (ended_at row p m to) m) is

-- a number that is no mailbox's has an empty queue
pub queue_past : (w : Waits) (m : ℕ) → length w.first ≤ m → queue_of w m ≡ []
queue_past w m past = ap (λ (o : Option ℕ). waiting_from w.behind (length w.mailbox) o) (get_or_past w.first m None past) ∙ waiting_none w.behind (length w.mailbox)

module _ (w : Waits) (count : ℕ) (are : AreQueues w count) where
  -- a desk that doesn't wait for a mailbox isn't in this mailbox's queue
  pub not_in : (d m : ℕ) → linked_at w.mailbox d ≢ Some m → without d (queue_of w m) ≡ queue_of w m
  not_in d m waits_not = elim (cases_lt m (length w.first)) [
    | inl l ↦ without_none d (queue_of w m) (out (one_waits_at m (linked_at w.mailbox d)) refl ((are.queued m l).once d))
    | inr past ↦ without_none d (queue_of w m) (ap (λ (q : List ℕ). sum_by (one_for d) q) (queue_past w m past))
  ]
    where
      out : (n : ℕ) → one_waits_at m (linked_at w.mailbox d) ≡ n → sum_by (one_for d) (queue_of w m) ≡ n → sum_by (one_for d) (queue_of w m) ≡ 0
      out zero e s = s
      out (suc n) e s =
          let one : one_waits_at m (linked_at w.mailbox d) ≡ 1 = omega (arith, e, waits_le m (linked_at w.mailbox d)) in
          absurd (waits_not (waits_where m (linked_at w.mailbox d) one))

  -- if the number of waiting desks is 0, every queue is empty
  pub nobody : count ≡ 0 → (m : ℕ) → queue_of w m ≡ []
  nobody none m = elim (cases_lt m (length w.first)) [
    | inl l ↦ empty (queue_of w m) (omega (arith, (are.queued m l).as_many, waits_sum m w.mailbox, are.counted, none))
    | inr past ↦ queue_past w m past
  ]
    where
      empty : (q : List ℕ) → length q ≡ 0 → q ≡ []
      empty [] e = refl
      empty (x ∷ xs) e = absurd (omega (arith, e))

  -- if the number of waiting desks is 0, no mailbox has a first waiting desk
  pub no_first : count ≡ 0 → (m : ℕ) → linked_at w.first m ≡ None
  no_first none m = elim (cases_lt m (length w.first)) [
    | inl l ↦ (are.queued m l).first ∙ ap first_of (nobody none m)
    | inr past ↦ get_or_past w.first m None past
  ]

  -- the first desk that is stored for a mailbox is the first desk of its queue
  pub first_is : (m : ℕ) → linked_at w.first m ≡ first_of (queue_of w m)
  first_is m = elim (cases_lt m (length w.first)) [
    | inl l ↦ (are.queued m l).first
    | inr past ↦ get_or_past w.first m None past ∙ ap first_of (sym (queue_past w m past))
  ]

  -- the last desk that is stored for a mailbox waits for this mailbox
  pub last_waits : (m e : ℕ) → linked_at w.last m ≡ Some e → linked_at w.mailbox e ≡ Some m
  last_waits m e last =
      let l : m < length w.first = omega (arith, within_row w.last m e last, are.rows.last) in
      counts_waits w m (queue_of w m) (are.queued m l) e (last_of_counts e (queue_of w m) (sym (are.queued m l).last ∙ last))
