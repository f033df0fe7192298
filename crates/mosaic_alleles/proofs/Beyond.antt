-- Beyond the counts no allele is somatic; so eight places that a function fills are those that it fills up to the last count, where it
-- leaves the others as they were: `eight_placed`. Assumes nothing.
use mathlib.Core.Path.{◌≡◌, refl, ap, sym, ◌∙◌}
use mathlib.Core.Bool.{false}
use mathlib.Core.List.{List, map}
use Rattle.std.proofs.Common.{inl, inr}
use Prim.Native.Nat.{ℕ, zero, suc, ◌+◌, ◌-◌, ◌≤◌}
use native.Mathlib.Omega.{arith}
use lib.ListN.{length, get_or, set, replicate, get_or-eq_default}
use lib.Dec.{lit≤}
use Rattle.std.proofs.lemmas.Bool.{cases_lt}
use Rattle.std.proofs.lemmas.List.{set-get_or, set_past}
use Rattle.lists.specs.Lists.{numbers}
use Rattle.lists.specs.Over.{placed}
use Rattle.lists.proofs.OverLaws.{placed_beyond, length-placed}
use Rattle.mosaic_alleles.specs.Alleles.{somatic_in}
use Rattle.mosaic_alleles.specs.declared.pair.GermlinePair.{GermlinePair}

pub not_somatic : (counts : List ℕ) (g : GermlinePair) (i : ℕ) → length counts ≤ i → somatic_in counts g i ≡ false
not_somatic counts g i h = rw (get_or-eq_default counts 0 h)

module _ {A : Type 0} (f : ℕ → A) (z : A) where
  blank_at : (n i : ℕ) → get_or (replicate n z) i z ≡ z
  blank_at zero i = refl
  blank_at (suc n) zero = refl
  blank_at (suc n) (suc i) = blank_at n i

  -- k more places of which each gets what it has
  unchanged : (l : List A) (n k m : ℕ) → m ≡ n + k → ((i : ℕ) → n ≤ i → f i ≡ get_or l i z) → placed l f m ≡ placed l f n
  unchanged l n zero m e h = let same : m ≡ n = omega (arith, e) in ap (placed l f) same
  unchanged l n (suc k) zero e h = absurd (omega (arith, e))
  unchanged l n (suc k) (suc m) e h =
      let here : f m ≡ get_or (placed l f m) m z = h m (omega (arith, e)) ∙ sym (placed_beyond l f z m m (omega arith)) in
      ap (set (placed l f m) m) here ∙ set-get_or (placed l f m) m z ∙ unchanged l n k m (omega (arith, e)) h

  -- and k more of which none is in the list
  past_end : (l : List A) (n k m : ℕ) → m ≡ n + k → length l ≤ n → placed l f m ≡ placed l f n
  past_end l n zero m e h = let same : m ≡ n = omega (arith, e) in ap (placed l f) same
  past_end l n (suc k) zero e h = absurd (omega (arith, e))
  past_end l n (suc k) (suc m) e h =
      let beyond : length (placed l f m) ≤ m = rw (length-placed l f m) (omega (arith, e)) in
      set_past (placed l f m) m (f m) beyond ∙ past_end l n k m (omega (arith, e)) h

  pub eight_placed : (n : ℕ) → ((i : ℕ) → n ≤ i → f i ≡ z) → map f (numbers 0 8) ≡ placed (replicate 8 z) f n
  eight_placed n h =
      elim (cases_lt n 8) [
        | inl l ↦ unchanged (replicate 8 z) n (8 - n) 8 (omega arith) (λ i b. h i b ∙ sym (blank_at 8 i))
        | inr g ↦ sym (past_end (replicate 8 z) 8 (n - 8) n (omega arith) (lit≤ tt))
      ]
