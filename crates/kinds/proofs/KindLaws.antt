-- LAWS OF KINDS. What follows from the rows is computed over them once: a law is a test that every row passes, and so does a number that no row has.
-- Assumes nothing.
use Prim.Native.Nat.{ℕ, ◌≤◌}
use mathlib.Core.Path.{◌≡◌, refl, subst, sym, ap, ◌∙◌}
use mathlib.Core.Bool.{Bool, true, false, cond, not, ◌&&◌, ◌||◌, beq}
use mathlib.Core.List.{List, [], ◌∷◌}
use lib.Dec.{eqb, leb}
use borrow.Author.Tests.{eqb-true, leb-true, not-true}
use Rattle.lists.proofs.Bools.{and_left, and_right, beq-true, eq-beq}
use Rattle.kinds.specs.Kinds.{Kind, rows, unknown, row_in, row_of, enters, quotes, sliding, minds, dark, light, carries, makers, asked}

-- ---- the rows ----

-- every row passes; the number of some row
abbrev all_rows : (ℕ → Kind → Bool) → List (ℕ × Kind) → Bool
all_rows test [] = true
all_rows test (row ∷ more) = test row.0 row.1 && all_rows test more

abbrev is_row : List (ℕ × Kind) → ℕ → Bool
is_row [] n = false
is_row (row ∷ more) n = eqb n row.0 || is_row more n

-- a test that every row passes, and a number that no row has, every number passes
by_rows : (test : ℕ → Kind → Bool) (n : ℕ) (l : List (ℕ × Kind)) → (is_row l n ≡ false → test n unknown ≡ true) → all_rows test l ≡ true
    → test n (row_in l n) ≡ true
by_rows test n [] other h = other refl
by_rows test n (row ∷ more) other h =
    go (eqb n row.0) refl other (λ o. by_rows test n more o (and_right (test row.0 row.1) (all_rows test more) h))
  where
    go : (b : Bool) → eqb n row.0 ≡ b → ((b || is_row more n) ≡ false → test n unknown ≡ true)
        → ((is_row more n ≡ false → test n unknown ≡ true) → test n (row_in more n) ≡ true) → test n (cond b row.1 (row_in more n)) ≡ true
    go true e o next =
        subst (λ (m : ℕ). test m row.1 ≡ true) (sym (eqb-true n row.0 e)) (and_left (test row.0 row.1) (all_rows test more) h)
    go false e o next = next o

implied : (a b : Bool) → (not a || b) ≡ true → a ≡ true → b ≡ true
implied true b h e = h
implied false b h e = implied-none b e
  where
    implied-none : (b : Bool) → false ≡ true → b ≡ true
    implied-none true e = refl
    implied-none false e = e

-- what of every row of which the one is so the other is so of too
one_then : (a b : Kind → Bool) → all_rows (λ n k. not (a k) || b k) rows ≡ true → (not (a unknown) || b unknown) ≡ true
    → (n : ℕ) → a (row_of n) ≡ true → b (row_of n) ≡ true
unfolding row_of
one_then a b h u n = implied (a (row_in rows n)) (b (row_in rows n)) (by_rows (λ m k. not (a k) || b k) n rows (λ _. u) h)

pub quotes-enter : (n : ℕ) → quotes n ≡ true → enters n ≡ true
quotes-enter n = one_then (λ k. k.quotes) (λ k. k.enters) refl refl n

pub enters-carries : (n : ℕ) → enters n ≡ true → carries n ≡ true
enters-carries n = one_then (λ k. k.enters) (λ k. k.carries) refl refl n

pub quotes-makers : (n : ℕ) → quotes n ≡ true → makers n ≡ true
quotes-makers n = one_then (λ k. k.quotes) (λ k. k.makers) refl refl n

pub makers-carries : (n : ℕ) → makers n ≡ true → carries n ≡ true
makers-carries n = one_then (λ k. k.makers) (λ k. k.carries) refl refl n

pub sliding-enters : (n : ℕ) → sliding n ≡ true → enters n ≡ true
sliding-enters n = one_then (λ k. k.sliding) (λ k. k.enters) refl refl n

pub minds-sliding : (n : ℕ) → minds n ≡ true → sliding n ≡ true
minds-sliding n = one_then (λ k. k.minds) (λ k. k.sliding) refl refl n

pub dark-enters : (n : ℕ) → dark n ≡ true → enters n ≡ true
dark-enters n = one_then (λ k. k.dark) (λ k. k.enters) refl refl n

-- what is dark does not slide, nor does what passes over the undisplayed
pub dark-rigid : (n : ℕ) → dark n ≡ true → sliding n ≡ false
dark-rigid n h = not-true (sliding n) (one_then (λ k. k.dark) (λ k. not k.sliding) refl refl n h)

pub light-rigid : (n : ℕ) → light n ≡ true → sliding n ≡ false
light-rigid n h = not-true (sliding n) (one_then (λ k. k.light) (λ k. not k.sliding) refl refl n h)

-- what slides passes nobody over; and what does not slide minds nobody
pub sliding-heavy : (n : ℕ) → sliding n ≡ true → light n ≡ false
sliding-heavy n h = not-true (light n) (one_then (λ k. k.sliding) (λ k. not k.light) refl refl n h)

pub rigid-takes : (n : ℕ) → sliding n ≡ false → minds n ≡ false
rigid-takes n h = not-true (minds n) (one_then (λ k. not k.sliding) (λ k. not k.minds) refl refl n (rw h refl))

pub asked-sliding : (n : ℕ) → asked n ≡ true → sliding n ≡ true
asked-sliding n = one_then (λ k. k.asked) (λ k. k.sliding) refl refl n

-- a kind's number has 4 bits, and is not 0
pub enters-low : (n : ℕ) → enters n ≡ true → 1 ≤ n
unfolding row_of
enters-low n h =
    leb-true 1 n (implied (enters n) (leb 1 n) (by_rows (λ m k. not k.enters || leb 1 m) n rows (λ _. refl) refl) h)

pub enters-high : (n : ℕ) → enters n ≡ true → n ≤ 15
unfolding row_of
enters-high n h =
    leb-true n 15 (implied (enters n) (leb n 15) (by_rows (λ m k. not k.enters || leb m 15) n rows (λ _. refl) refl) h)

-- kinds 7 to 12 do not enter; what they carry
pub stays_out : (n : ℕ) → (leb 7 n && leb n 12) ≡ true → enters n ≡ false
unfolding row_of
stays_out n h =
    not-true (enters n) (implied (leb 7 n && leb n 12) (not (enters n)) (by_rows (λ m k. not (leb 7 m && leb m 12) || not k.enters) n rows
    (λ _. implied-any (leb 7 n && leb n 12)) refl) h)
  where
    implied-any : (b : Bool) → (not b || true) ≡ true
    implied-any true = refl
    implied-any false = refl

pub entry-cancel-carries : carries 7 ≡ true
unfolding row_of
entry-cancel-carries = refl

pub quote-cancel-makers : makers 8 ≡ true
unfolding row_of
quote-cancel-makers = refl

pub enable-makers : makers 12 ≡ true
unfolding row_of
enable-makers = refl

-- a kind of which something is so is no kind of which it is not
pub no_such : (f : ℕ → Bool) (k n : ℕ) → f k ≡ false → f n ≡ true → eqb n k ≡ false
no_such f k n a b = go (eqb n k) refl
  where
    go : (c : Bool) → eqb n k ≡ c → c ≡ false
    go true e = sym b ∙ ap f (eqb-true n k e) ∙ a
    go false e = refl

-- ---- the tests of the code: the numbers of the rows of which something is so ----

-- n is k or one of ks
abbrev pub one_of : ℕ → List ℕ → ℕ → Bool
one_of k [] n = eqb n k
one_of k (j ∷ js) n = eqb n k || one_of j js n

abbrev are_rows : ℕ → List ℕ → Bool
are_rows k [] = is_row rows k
are_rows k (j ∷ js) = is_row rows k && are_rows j js

-- a number that no row has is none of theirs
none_of : (k : ℕ) (ks : List ℕ) → are_rows k ks ≡ true → (n : ℕ) → is_row rows n ≡ false → one_of k ks n ≡ false
none_of k [] h n out = go (eqb n k) refl
  where
    go : (c : Bool) → eqb n k ≡ c → c ≡ false
    go true e = sym h ∙ ap (is_row rows) (sym (eqb-true n k e)) ∙ out
    go false e = refl
none_of k (j ∷ js) h n out =
    go (eqb n k) refl (none_of j js (and_right (is_row rows k) (are_rows j js) h) n out)
  where
    go : (c : Bool) → eqb n k ≡ c → one_of j js n ≡ false → (c || one_of j js n) ≡ false
    go true e r = sym (and_left (is_row rows k) (are_rows j js) h) ∙ ap (is_row rows) (sym (eqb-true n k e)) ∙ out
    go false e r = r

-- THE LIST OF NUMBERS says the same as the rows
listed : (f : Kind → Bool) (k : ℕ) (ks : List ℕ) → all_rows (λ n r. beq (one_of k ks n) (f r)) rows ≡ true → are_rows k ks ≡ true → f unknown ≡ false
    → (n : ℕ) → one_of k ks n ≡ f (row_of n)
unfolding row_of
listed f k ks h rs u n =
    beq-true (one_of k ks n) (f (row_in rows n))
    (by_rows (λ m r. beq (one_of k ks m) (f r)) n rows (λ out. eq-beq (one_of k ks n) (f unknown) (none_of k ks rs n out ∙ sym u)) h)

pub enters_is : (n : ℕ) → one_of 1 (2 ∷ 3 ∷ 4 ∷ 5 ∷ 6 ∷ []) n ≡ enters n
enters_is n = listed (λ k. k.enters) 1 (2 ∷ 3 ∷ 4 ∷ 5 ∷ 6 ∷ []) refl refl refl n

pub quotes-is : (n : ℕ) → one_of 1 (2 ∷ 3 ∷ 4 ∷ []) n ≡ quotes n
quotes-is n = listed (λ k. k.quotes) 1 (2 ∷ 3 ∷ 4 ∷ []) refl refl refl n

pub sliding-is : (n : ℕ) → one_of 3 (4 ∷ []) n ≡ sliding n
sliding-is n = listed (λ k. k.sliding) 3 (4 ∷ []) refl refl refl n

pub minds-is : (n : ℕ) → one_of 3 [] n ≡ minds n
minds-is n = listed (λ k. k.minds) 3 [] refl refl refl n

pub dark-is : (n : ℕ) → one_of 6 [] n ≡ dark n
dark-is n = listed (λ k. k.dark) 6 [] refl refl refl n

pub light-is : (n : ℕ) → one_of 2 [] n ≡ light n
light-is n = listed (λ k. k.light) 2 [] refl refl refl n

pub carries-is : (n : ℕ) → one_of 1 (2 ∷ 3 ∷ 4 ∷ 5 ∷ 6 ∷ 7 ∷ 8 ∷ 12 ∷ []) n ≡ carries n
carries-is n = listed (λ k. k.carries) 1 (2 ∷ 3 ∷ 4 ∷ 5 ∷ 6 ∷ 7 ∷ 8 ∷ 12 ∷ []) refl refl refl n

pub makers-is : (n : ℕ) → one_of 1 (2 ∷ 3 ∷ 4 ∷ 8 ∷ 12 ∷ []) n ≡ makers n
makers-is n = listed (λ k. k.makers) 1 (2 ∷ 3 ∷ 4 ∷ 8 ∷ 12 ∷ []) refl refl refl n

pub asked_is : (n : ℕ) → one_of 3 (4 ∷ []) n ≡ asked n
asked_is n = listed (λ k. k.asked) 3 (4 ∷ []) refl refl refl n
