-- `trio_stored::search::Search::family` meets its contract: in three ways what is held is what offering every child gives.
use mathlib.Core.Path.{◌≡◌, sym, ap, subst, ◌∙◌}
use native.Mathlib.Omega.{arith}
use lib.Dec.{T}
use Rattle.trio_entries.specs.Held.{held_of}
use Rattle.trio_stored.specs.declared.terms.Places.{Places}
use Rattle.trio_stored.specs.Terms.{share_of, share_term, places_of}
use Rattle.trio_stored.proofs.FamilyLaws.{family_none, family_four, family_all}
use Rattle.trio_stored.proofs.PlacesLaws.{Rise, places_rise}
use Rattle.trio_mendel.proofs.MendelLaws.{child_pairs_few}
use Rattle.trio_stored.proofs.TermLaws.{log_unlike, share_few}
use Prim.Native.Nat.{ℕ, ◌≤◌}
use lib.ListN.{length}
use Rattle.trio_family.specs.declared.pair.Pair.{Pair}
use Rattle.trio_family.specs.Genotypes.{genotype_count}
use Rattle.trio_mendel.specs.Mendel.{child_pairs}
use Rattle.trio_stored.specs.Terms.{PairIn}
use Rattle.trio_stored.proofs.search.Search.family.Goals as goal

-- one share at least and four at most
few_shares : (rule d : ℕ) (f m : Pair) (u : ℕ) → d ≡ length (child_pairs f m) → 1 ≤ u → u ≤ 4
    → (1 ≤ share_of rule d u) × (share_of rule d u ≤ 4)
few_shares rule d f m u e some few = let pairs = rw (← e) at (child_pairs_few f m) in share_few rule d u pairs.0 pairs.1 some few

-- the places rise
rise_in : (n g : ℕ) (f m : Pair) (k : Places) → n ≤ 8 → PairIn n f → PairIn n m → g ≡ genotype_count n → k ≡ places_of n f m → Rise k g
rise_in n g f m k few F M e i =
    subst (λ (j : Places). Rise j g) (sym i) (subst (Rise (places_of n f m)) (sym e) (places_rise n f m few F M))

pub likely-inner-requires : goal.likely-inner-requires
likely-inner-requires c =
    let a = c.args in
    let my = a.self.now in
    rw c.share.ensures (few_shares my.rule c.distinct_pairs-d.result a.f a.m 2 c.distinct_pairs-d.ensures (omega arith) (omega arith))

pub returns-then-base-self : goal.returns-then-base-self
returns-then-base-self c =
    let a = c.args in
    let my = a.self.now in
    let p = c.requires.n_bound in
    let inner = c.likely-inner.ensures
    ∙ ap share_term (c.share.ensures ∙ ap (λ (d : ℕ). share_of my.rule d 2) c.distinct_pairs-d.ensures) in
    family_none my.n my.rule a.f a.m my.child.now a.base my.top a.at my.g a.held my.sized.1 my.sized.2 p.0
    p.1
    my.highest c.requires.g_bound.1 c.likely-inner.result inner
    (subst T (sym (rw c.to_pass-least.ensures at c.if-base-self.true)) tt)

pub likely-outer-requires : goal.likely-outer-requires
likely-outer-requires c =
    let a = c.args in
    let my = a.self.now in
    rw c.share-2.ensures (few_shares my.rule c.distinct_pairs-d.result a.f a.m 4 c.distinct_pairs-d.ensures (omega arith) (omega arith))

pub four-requires : goal.four-requires
four-requires c =
    let a = c.args in
    let my = a.self.now in
    let p = c.requires.n_bound in
    let q = c.requires.g_bound in
    let r = rise_in my.n my.g a.f a.m c.places_of-k.result my.sized.1 p.0 p.1 my.sized.2
    c.places_of-k.ensures in
    record { first_le_second = (r.to_second, r.to_third, r.to_fourth, omega (arith, r.to_end)); g_bound = (q.0, q.1) }

pub returns-then-base-self-2 : goal.returns-then-base-self-2
returns-then-base-self-2 c =
    let a = c.args in
    let my = a.self.now in
    let p = c.requires.n_bound in
    let inner = c.likely-inner.ensures
    ∙ ap share_term (c.share.ensures ∙ ap (λ (d : ℕ). share_of my.rule d 2) c.distinct_pairs-d.ensures) in
    let outer = c.likely-outer.ensures
    ∙ ap share_term (c.share-2.ensures ∙ ap (λ (d : ℕ). share_of my.rule d 4) c.distinct_pairs-d.ensures) in
    let test = rw (c.to_pass-least.ensures, ← log_unlike) at c.if-base-self-2.true in
    rw (c.four.ensures, c.places_of-k.ensures)
    (ap held_of
    (family_four my.n my.rule a.f a.m my.child.now a.base my.top a.at my.g a.held my.sized.1 my.sized.2 p.0 p.1
    my.highest c.requires.g_bound.1 c.likely-outer.result c.likely-inner.result outer inner
    (subst T (sym test) tt)))

pub terms_of-terms-requires : goal.terms_of-terms-requires
terms_of-terms-requires c =
    let a = c.args in
    let my = a.self.now in
    let p = c.requires.n_bound in
    let r = rise_in my.n my.g a.f a.m c.places_of-k.result my.sized.1 p.0 p.1 my.sized.2
    c.places_of-k.ensures in
    let few = my.sized.3 in (
      omega (arith, r.to_second, r.to_third, r.to_fourth, r.to_end, few),
      omega (arith, r.to_third, r.to_fourth, r.to_end, few),
      omega (arith, r.to_fourth, r.to_end, few),
      omega (arith, r.to_end, few),
    )

pub down-requires : goal.down-requires
down-requires c = (c.requires.g_bound.0, c.requires.g_bound.1)

pub returns : goal.returns
returns c =
    let a = c.args in
    let my = a.self.now in
    let p = c.requires.n_bound in
    let inner = c.likely-inner.ensures
    ∙ ap share_term (c.share.ensures ∙ ap (λ (d : ℕ). share_of my.rule d 2) c.distinct_pairs-d.ensures) in
    let outer = c.likely-outer.ensures
    ∙ ap share_term (c.share-2.ensures ∙ ap (λ (d : ℕ). share_of my.rule d 4) c.distinct_pairs-d.ensures) in
    let terms = rw c.places_of-k.ensures at c.terms_of-terms.ensures in
    c.down.ensures
    ∙ ap held_of
    (family_all my.n my.rule a.f a.m my.child.now a.base my.top a.at my.g a.held my.sized.1 my.sized.2 p.0 p.1
    my.highest c.requires.g_bound.1 c.likely-outer.result c.likely-inner.result c.terms_of-terms.result outer inner terms)
