-- Where `position` stops, or the end of the list: how long the part of a text is that a byte ends. Assumes nothing.
use mathlib.Core.Path.{◌≡◌, refl, ap, ◌∙◌}
use mathlib.Core.Bool.{Bool, true, false, cond}
use mathlib.Core.List.{List, [], ◌∷◌}
use Prim.Native.Nat.{ℕ, ◌+◌, ◌≤◌}
use native.Mathlib.Omega.{arith}
use borrow.Author.Tests.{ltb-false}
use lib.Dec.{eqb, ltb}
use lib.ListN.{length}
use Rattle.std.proofs.Common.{drop, take, min, ◌-◌}
use Rattle.std.proofs.lemmas.Grind.{common_steps}
use Rattle.std.specs.List.{position_or_len}
use Rattle.std.specs.Option.{unwrap_or}
use Rattle.std.specs.Prelude.{Option, Some, None}
use Rattle.std.proofs.lemmas.List.Recursion.{is_position_or_len}
use Rattle.text_reading.specs.Fields.{up_to}
use Rattle.text_reading.specs.Decimals.{is_mark, first_part}

one_more : (t : Bool) (x : ℕ) (l : List ℕ) → length (cond t [] (x ∷ l)) ≡ cond t 0 (1 + length l)
one_more true x l = refl
one_more false x l = omega arith

pub up_to_at : (b : ℕ) (l : List ℕ) → length (up_to b l) ≡ position_or_len (λ x. eqb x b) l
up_to_at b = is_position_or_len (λ l. length (up_to b l)) (λ x. eqb x b) refl (λ x l. one_more (eqb x b) x (up_to b l))

pub first_part_at : (l : List ℕ) → length (first_part l) ≡ position_or_len is_mark l
first_part_at = is_position_or_len (λ l. length (first_part l)) is_mark refl (λ x l. one_more (is_mark x) x (first_part l))

-- what is left of a list from a place on, or from its end
pub rest_from : (m s : ℕ) (l : List ℕ) → m ≡ min s (length l) → take (length l - m) (drop m l) ≡ drop s l
rest_from m s l e = rw e (grind (arith, common_steps))

short : (p : ℕ → Bool) (l : List ℕ) → position_or_len p l ≤ length l
short p [] = omega arith
short p (x ∷ l) = grind (arith, short p l)

-- what `position` answers, or the length
pub place_or_end : (p : ℕ → Bool) (l : List ℕ) (r : Option ℕ)
    → r ≡ cond (ltb (position_or_len p l) (length l)) (Some (position_or_len p l)) None
    → unwrap_or r (length l) ≡ position_or_len p l
place_or_end p l r e = go (ltb (position_or_len p l) (length l)) refl e
  where
    go : (t : Bool) → ltb (position_or_len p l) (length l) ≡ t → r ≡ cond t (Some (position_or_len p l)) None
        → unwrap_or r (length l) ≡ position_or_len p l
    go true h f = ap (λ (o : Option ℕ). unwrap_or o (length l)) f
    go false h f = ap (λ (o : Option ℕ). unwrap_or o (length l)) f ∙ omega (arith, short p l, ltb-false _ _ h)
