-- A row put into its place among ascending rows; ascending lists with the same rows are equal, and none has more rows than another that has all of
-- its rows. Assumes nothing.
use Prim.Native.Nat.{ℕ, suc, ◌≤◌}
use native.Mathlib.Omega.{arith}
use mathlib.Core.Path.{◌≡◌, refl, sym, ap}
use mathlib.Core.Bool.{Bool, true, false, cond}
use mathlib.Core.Logic.{◌⊎◌, inl, inr}
use mathlib.Core.List.Memᴰ
use mathlib.Core.List.{List, [], ◌∷◌}
use lib.ListN.{length}
use Rattle.automata.specs.Row.{Row, Before, Below}
use Rattle.automata.specs.Closed.{Mem, Ascends}
use Rattle.automata.specs.Checks.{belowb, has}
use Rattle.automata.specs.Kept.{insert}
use Rattle.automata.proofs.Laws.Tests.{refutes, either}
use Rattle.automata.proofs.Laws.Order.{Tri, is_lt, is_eq, is_gt, tri}
use Rattle.automata.proofs.Laws.Members.{Sorted, sorted_ascends}
use Rattle.automata.proofs.Laws.Ordered.{below_trans, below_itself, not_both_below, ascends_sorted}
use Rattle.automata.proofs.Laws.Checks.{belowb_law, has_law}

-- the order is total ---------------------------------------------------------------------------------------------------------------------

pub before_total : (xs ys : List ℕ) → Before xs ys ⊎ ((xs ≡ ys) ⊎ Before ys xs)
before_total [] [] = inr (inl refl)
before_total [] (y ∷ ys) = inl tt
before_total (x ∷ xs) [] = inr (inr tt)
before_total (x ∷ xs) (y ∷ ys) = go (tri x y) (before_total xs ys)
  where
    go : Tri x y → Before xs ys ⊎ ((xs ≡ ys) ⊎ Before ys xs) → Before (x ∷ xs) (y ∷ ys) ⊎ (((x ∷ xs) ≡ (y ∷ ys)) ⊎ Before (y ∷ ys) (x ∷ xs))
    go (is_lt h _) t = inl (inl h)
    go (is_gt h _) t = inr (inr (inl h))
    go (is_eq e _) (inl b) = inl (inr (e, b))
    go (is_eq e _) (inr (inl d)) = inr (inl (λ i. e i ∷ d i))
    go (is_eq e _) (inr (inr b)) = inr (inr (inr (sym e, b)))

pub below_total : (r s : Row) → Below r s ⊎ ((r ≡ s) ⊎ Below s r)
below_total r s = go (tri r.location s.location) (before_total r.intervals s.intervals) (before_total r.ranks s.ranks)
  where
    go : Tri r.location s.location
        → Before r.intervals s.intervals ⊎ ((r.intervals ≡ s.intervals) ⊎ Before s.intervals r.intervals)
        → Before r.ranks s.ranks ⊎ ((r.ranks ≡ s.ranks) ⊎ Before s.ranks r.ranks)
        → Below r s ⊎ ((r ≡ s) ⊎ Below s r)
    go (is_lt h _) t u = inl (inl h)
    go (is_gt h _) t u = inr (inr (inl h))
    go (is_eq e _) (inl b) u = inl (inr (e, inl b))
    go (is_eq e _) (inr (inr b)) u = inr (inr (inr (sym e, inl b)))
    go (is_eq e _) (inr (inl d)) (inl b) = inl (inr (e, inr (d, b)))
    go (is_eq e _) (inr (inl d)) (inr (inr b)) = inr (inr (inr (sym e, inr (sym d, b))))
    go (is_eq e _) (inr (inl d)) (inr (inl f)) = inr (inl (λ i. record { location = e i; intervals = d i; ranks = f i }))

-- a row put into its place ---------------------------------------------------------------------------------------------------------------

-- before the first, further on, or not at all
pub insert_cases : (P : List Row → Type 0) (r s : Row) (rows : List Row)
    → (Below r s → P (r ∷ (s ∷ rows))) → (Below s r → P (s ∷ insert r rows)) → (r ≡ s → P (s ∷ rows)) → P (insert r (s ∷ rows))
insert_cases P r s rows here on there = go (belowb r s) refl (belowb s r) refl
  where
    equal : belowb r s ≡ false → belowb s r ≡ false → Below r s ⊎ ((r ≡ s) ⊎ Below s r) → r ≡ s
    equal a b (inl h) = absurd (refutes (belowb r s) (belowb_law r s) a h)
    equal a b (inr (inl e)) = e
    equal a b (inr (inr h)) = absurd (refutes (belowb s r) (belowb_law s r) b h)

    go : (a : Bool) → belowb r s ≡ a → (b : Bool) → belowb s r ≡ b → P (cond a (r ∷ (s ∷ rows)) (cond b (s ∷ insert r rows) (s ∷ rows)))
    go true e b f = here ((belowb_law r s).0 e)
    go false e true f = on ((belowb_law s r).0 f)
    go false e false f = there (equal e f (below_total r s))

pub insert_in : (r : Row) (rows : List Row) (a : Row) → (a ≡ r) ⊎ Mem a rows → Mem a (insert r rows)
insert_in r [] a (inl e) = Memᴰ.head e
insert_in r [] a (inr m) = absurd (Memᴰ.not-nil m)
insert_in r (s ∷ rows) a m = insert_cases (λ (l : List Row). Mem a l) r s rows (λ b. here m) (λ b. on (insert_in r rows a) m) (λ e. there e m)
  where
    here : (a ≡ r) ⊎ Mem a (s ∷ rows) → Mem a (r ∷ (s ∷ rows))
    here (inl e) = Memᴰ.head e
    here (inr k) = Memᴰ.tail k

    behind : ((a ≡ r) ⊎ Mem a rows → Mem a (insert r rows)) → (a ≡ s) ⊎ Mem a rows → Mem a (s ∷ insert r rows)
    behind further (inl e) = Memᴰ.head e
    behind further (inr k) = Memᴰ.tail (further (inr k))

    on : ((a ≡ r) ⊎ Mem a rows → Mem a (insert r rows)) → (a ≡ r) ⊎ Mem a (s ∷ rows) → Mem a (s ∷ insert r rows)
    on further (inl e) = Memᴰ.tail (further (inl e))
    on further (inr k) = behind further (Memᴰ.cases_cons k)

    there : r ≡ s → (a ≡ r) ⊎ Mem a (s ∷ rows) → Mem a (s ∷ rows)
    there e (inl d) = Memᴰ.head (rw e at d)
    there e (inr k) = k

pub insert_out : (r : Row) (rows : List Row) (a : Row) → Mem a (insert r rows) → (a ≡ r) ⊎ Mem a rows
insert_out r [] a m = Memᴰ.cases_cons m
insert_out r (s ∷ rows) a m =
    insert_cases (λ (l : List Row). Mem a l → (a ≡ r) ⊎ Mem a (s ∷ rows)) r s rows
    (λ b k. Memᴰ.cases_cons k) (λ b k. on (insert_out r rows a) (Memᴰ.cases_cons k)) (λ e k. inr k) m
  where
    behind : (a ≡ r) ⊎ Mem a rows → (a ≡ r) ⊎ Mem a (s ∷ rows)
    behind (inl e) = inl e
    behind (inr k) = inr (Memᴰ.tail k)

    on : (Mem a (insert r rows) → (a ≡ r) ⊎ Mem a rows) → (a ≡ s) ⊎ Mem a (insert r rows) → (a ≡ r) ⊎ Mem a (s ∷ rows)
    on further (inl e) = inr (Memᴰ.head e)
    on further (inr k) = behind (further k)

insert_sorted : (r : Row) (rows : List Row) → Sorted Below rows → Sorted Below (insert r rows)
insert_sorted r [] q = (λ a m. absurd (Memᴰ.not-nil m), tt)
insert_sorted r (s ∷ rows) q =
    insert_cases (Sorted Below) r s rows
    (λ b. (λ a m. first b (Memᴰ.cases_cons m), q)) (λ b. (λ a m. later b (insert_out r rows a m), insert_sorted r rows q.1)) (λ e. q)
  where
    first : {a : Row} → Below r s → (a ≡ s) ⊎ Mem a rows → Below r a
    first b (inl e) = rw e b
    first {a} b (inr m) = below_trans r s a b (q.0 a m)

    later : {a : Row} → Below s r → (a ≡ r) ⊎ Mem a rows → Below s a
    later b (inl e) = rw e b
    later {a} b (inr m) = q.0 a m

pub insert_ascends : (r : Row) (rows : List Row) → Ascends rows → Ascends (insert r rows)
insert_ascends r rows a = sorted_ascends (insert r rows) (insert_sorted r rows (ascends_sorted rows a))

-- a row that is there makes no other list; any other makes it longer by one
same_sorted : (r : Row) (rows : List Row) → Sorted Below rows → Mem r rows → insert r rows ≡ rows
same_sorted r [] q m = absurd (Memᴰ.not-nil m)
same_sorted r (s ∷ rows) q m =
    insert_cases (λ (l : List Row). l ≡ (s ∷ rows)) r s rows (λ b. absurd (first b (Memᴰ.cases_cons m)))
    (λ b. ap (λ (l : List Row). s ∷ l) (same_sorted r rows q.1 (rest b (Memᴰ.cases_cons m)))) (λ e. refl)
  where
    first : Below r s → (r ≡ s) ⊎ Mem r rows → ⊥
    first b (inl e) = below_itself s (rw e at b)
    first b (inr k) = not_both_below r s b (q.0 r k)

    rest : Below s r → (r ≡ s) ⊎ Mem r rows → Mem r rows
    rest b (inl e) = absurd (below_itself s (rw e at b))
    rest b (inr k) = k

pub insert_same : (r : Row) (rows : List Row) → Ascends rows → Mem r rows → insert r rows ≡ rows
insert_same r rows a m = same_sorted r rows (ascends_sorted rows a) m

pub insert_length : (r : Row) (rows : List Row) → (Mem r rows → ⊥) → length (insert r rows) ≡ suc (length rows)
insert_length r [] out = refl
insert_length r (s ∷ rows) out =
    insert_cases (λ (l : List Row). length l ≡ suc (suc (length rows))) r s rows
    (λ b. refl) (λ b. ap suc (insert_length r rows (λ m. out (Memᴰ.tail m)))) (λ e. absurd (out (Memᴰ.head e)))

pub insert_longer : (r : Row) (rows : List Row) → length rows ≤ length (insert r rows)
insert_longer r [] = omega arith
insert_longer r (s ∷ rows) =
    insert_cases (λ (l : List Row). suc (length rows) ≤ length l) r s rows
    (λ b. omega arith) (λ b. let h = insert_longer r rows in omega arith) (λ e. omega arith)

insert_by_one : (r : Row) (rows : List Row) → length (insert r rows) ≤ suc (length rows)
insert_by_one r [] = omega arith
insert_by_one r (s ∷ rows) =
    insert_cases (λ (l : List Row). length l ≤ suc (suc (length rows))) r s rows
    (λ b. omega arith) (λ b. let h = insert_by_one r rows in omega arith) (λ e. omega arith)

-- two lists ------------------------------------------------------------------------------------------------------------------------------

-- the rows that are above the first of a list and in it are in its rest
rest_in : (s a : Row) (rows : List Row) → Below s a → Mem a (s ∷ rows) → Mem a rows
rest_in s a rows b m = go (Memᴰ.cases_cons m)
  where
    go : (a ≡ s) ⊎ Mem a rows → Mem a rows
    go (inl e) = absurd (below_itself s (rw e at b))
    go (inr k) = k

same_first : (r s : Row) (xs ys : List Row) → Sorted Below (r ∷ xs) → Sorted Below (s ∷ ys) → Mem r (s ∷ ys) → Mem s (r ∷ xs) → r ≡ s
same_first r s xs ys p q m k = go (Memᴰ.cases_cons m) (Memᴰ.cases_cons k)
  where
    go : (r ≡ s) ⊎ Mem r ys → (s ≡ r) ⊎ Mem s xs → r ≡ s
    go (inl e) t = e
    go (inr h) (inl e) = sym e
    go (inr h) (inr l) = absurd (not_both_below r s (p.0 s l) (q.0 r h))

sorted_unique : (xs ys : List Row) → Sorted Below xs → Sorted Below ys → ((a : Row) → Mem a xs → Mem a ys) → ((a : Row) → Mem a ys → Mem a xs) → xs ≡ ys
sorted_unique [] [] p q to back = refl
sorted_unique [] (s ∷ ys) p q to back = absurd (Memᴰ.not-nil (back s (Memᴰ.head refl)))
sorted_unique (r ∷ xs) [] p q to back = absurd (Memᴰ.not-nil (to r (Memᴰ.head refl)))
sorted_unique (r ∷ xs) (s ∷ ys) p q to back =
    let e : r ≡ s = same_first r s xs ys p q (to r (Memᴰ.head refl)) (back s (Memᴰ.head refl)) in
    let d : xs ≡ ys = sorted_unique xs ys p.1 q.1
    (λ a m. rest_in s a ys (rw e at (p.0 a m)) (to a (Memᴰ.tail m)))
    (λ a m. rest_in r a xs (rw (← e) at (q.0 a m)) (back a (Memᴰ.tail m))) in
    λ i. e i ∷ d i

pub ascending_unique : (xs ys : List Row) → Ascends xs → Ascends ys → ((a : Row) → Mem a xs → Mem a ys) → ((a : Row) → Mem a ys → Mem a xs) → xs ≡ ys
ascending_unique xs ys p q to back = sorted_unique xs ys (ascends_sorted xs p) (ascends_sorted ys q) to back

sorted_fewer : (xs ys : List Row) → Sorted Below xs → Sorted Below ys → ((a : Row) → Mem a xs → Mem a ys) → length xs ≤ length ys
sorted_fewer [] ys p q to = omega arith
sorted_fewer (r ∷ xs) [] p q to = absurd (Memᴰ.not-nil (to r (Memᴰ.head refl)))
sorted_fewer (r ∷ xs) (s ∷ ys) p q to = go (Memᴰ.cases_cons (to r (Memᴰ.head refl))) (sorted_fewer xs ys p.1 q.1) (sorted_fewer (r ∷ xs) ys p q.1)
  where
    above : Mem r ys → (a : Row) → (a ≡ r) ⊎ Mem a xs → Mem a ys
    above k a (inl e) = rw e k
    above k a (inr m) = rest_in s a ys (below_trans s r a (q.0 r k) (p.0 a m)) (to a (Memᴰ.tail m))

    go : (r ≡ s) ⊎ Mem r ys → (((a : Row) → Mem a xs → Mem a ys) → length xs ≤ length ys) → (((a : Row) → Mem a (r ∷ xs) → Mem a ys) → suc (length xs) ≤ length ys)
        → suc (length xs) ≤ suc (length ys)
    go (inl e) fewer all = let h = fewer (λ a m. rest_in s a ys (rw e at (p.0 a m)) (to a (Memᴰ.tail m))) in omega arith
    go (inr k) fewer all = let h = all (λ a m. above k a (Memᴰ.cases_cons m)) in omega arith

-- any rows, each once and ascending
in_order : List Row → List Row
in_order [] = []
in_order (r ∷ rows) = insert r (in_order rows)

in_order_sorted : (rows : List Row) → Sorted Below (in_order rows)
unfolding in_order
in_order_sorted [] = tt
in_order_sorted (r ∷ rows) = insert_sorted r (in_order rows) (in_order_sorted rows)

in_order_in : (rows : List Row) (a : Row) → Mem a rows → Mem a (in_order rows)
unfolding in_order
in_order_in [] a m = absurd (Memᴰ.not-nil m)
in_order_in (r ∷ rows) a m = insert_in r (in_order rows) a (go (in_order_in rows a) (Memᴰ.cases_cons m))
  where
    go : (Mem a rows → Mem a (in_order rows)) → (a ≡ r) ⊎ Mem a rows → (a ≡ r) ⊎ Mem a (in_order rows)
    go further (inl e) = inl e
    go further (inr k) = inr (further k)

in_order_length : (rows : List Row) → length (in_order rows) ≤ length rows
unfolding in_order
in_order_length [] = omega arith
in_order_length (r ∷ rows) = let h = in_order_length rows in let k = insert_by_one r (in_order rows) in omega arith

-- an ascending list has no more rows than any list that has all of its rows
pub ascending_fewer : (xs ys : List Row) → Ascends xs → ((a : Row) → Mem a xs → Mem a ys) → length xs ≤ length ys
ascending_fewer xs ys p to =
    let h = sorted_fewer xs (in_order ys) (ascends_sorted xs p) (in_order_sorted ys) (λ a m. in_order_in ys a (to a m)) in
    let k = in_order_length ys in
    omega arith

-- and if it has as many, it has all of them: one more would be too many
pub ascending_full : (xs ys : List Row) → Ascends xs → ((a : Row) → Mem a xs → Mem a ys) → length ys ≤ length xs → (a : Row) → Mem a ys → Mem a xs
ascending_full xs ys p to full a m = go (either (has xs a) (has_law xs a))
  where
    back : (s : Row) → (s ≡ a) ⊎ Mem s xs → Mem s ys
    back s (inl e) = rw e m
    back s (inr k) = to s k

    go : (Mem a xs → ⊥) ⊎ Mem a xs → Mem a xs
    go (inl out) =
        let h = ascending_fewer (insert a xs) ys (insert_ascends a xs p) (λ s k. back s (insert_out a xs s k)) in
        let k = insert_length a xs out in
        absurd (omega arith)
    go (inr k) = k
