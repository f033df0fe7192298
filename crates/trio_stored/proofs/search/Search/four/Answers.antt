-- `trio_stored::search::Search::four` meets its contract: each place takes up what the one behind it left.
use mathlib.Core.Path.{◌≡◌}
use native.Mathlib.Omega.{arith}
use lib.Ieee.{Float}
use Rattle.trio_entries.specs.declared.held.Held.{Held}
use Rattle.trio_entries.specs.Held.{held_of, held_list}
use Rattle.trio_stored.specs.Walk.{even_score, next_of, HeldPast}
use Rattle.trio_stored.proofs.FourLaws.{next_held, even_fits}
use Prim.Native.Nat.{ℕ, ◌+◌, ◌≤◌}
use mathlib.Core.List.{List}
use Rattle.trio_stored.proofs.search.Search.four.Goals as goal

-- what is held once a place has been offered, as a list, and that it lies past that place
abbrev Taken : List Float → Float → ℕ → Float → ℕ → ℕ → Held → Held → Type 0
Taken child base at term k last h o = (held_list o ≡ next_of (even_score child term base at) at k last (held_list h)) × HeldPast (at + k) o

taken : (child : List Float) (base : Float) (at : ℕ) (term : Float) (k last : ℕ) (h o : Held) → k ≤ last → HeldPast (at + last) h
    → o ≡ held_of (next_of (even_score child term base at) at k last (held_list h)) → Taken child base at term k last h o
taken child base at term k last h o within past e =
    next_held (even_score child term base at) (even_fits child term base at) at k last h o within past e

pub next-a-requires : goal.next-a-requires
next-a-requires c =
    let my = c.args.self.now in
    let p = c.requires.first_le_second in
    let q = c.requires.g_bound in
    (p.3, my.sized.3, q.0, q.1)

pub next-b-requires : goal.next-b-requires
next-b-requires c =
    let a = c.args in
    let my = a.self.now in
    let p = c.requires.first_le_second in
    let q = c.requires.g_bound in
    let fourth = taken my.child.now a.base a.at a.outer a.k.fourth my.g a.held c.next-a.result p.3 q.1 c.next-a.ensures in
    (p.2, omega (arith, p.3, my.sized.3), omega (arith, p.3, q.0), fourth.1)

pub next-c-requires : goal.next-c-requires
next-c-requires c =
    let a = c.args in
    let my = a.self.now in
    let p = c.requires.first_le_second in
    let q = c.requires.g_bound in
    let fourth = taken my.child.now a.base a.at a.outer a.k.fourth my.g a.held c.next-a.result p.3 q.1 c.next-a.ensures in
    let third = taken my.child.now a.base a.at a.inner a.k.third a.k.fourth c.next-a.result c.next-b.result p.2 fourth.1 c.next-b.ensures in
    (p.1, omega (arith, p.2, p.3, my.sized.3), omega (arith, p.2, p.3, q.0), third.1)

pub next-requires : goal.next-requires
next-requires c =
    let a = c.args in
    let my = a.self.now in
    let p = c.requires.first_le_second in
    let q = c.requires.g_bound in
    let fourth = taken my.child.now a.base a.at a.outer a.k.fourth my.g a.held c.next-a.result p.3 q.1 c.next-a.ensures in
    let third = taken my.child.now a.base a.at a.inner a.k.third a.k.fourth c.next-a.result c.next-b.result p.2 fourth.1 c.next-b.ensures in
    let second = taken my.child.now a.base a.at a.inner a.k.second a.k.third c.next-b.result c.next-c.result p.1 third.1 c.next-c.ensures in
    (p.0, omega (arith, p.1, p.2, p.3, my.sized.3), omega (arith, p.1, p.2, p.3, q.0), second.1)

pub returns : goal.returns
returns c =
    let a = c.args in
    let my = a.self.now in
    let p = c.requires.first_le_second in
    let q = c.requires.g_bound in
    let fourth = taken my.child.now a.base a.at a.outer a.k.fourth my.g a.held c.next-a.result p.3 q.1 c.next-a.ensures in
    let third = taken my.child.now a.base a.at a.inner a.k.third a.k.fourth c.next-a.result c.next-b.result p.2 fourth.1 c.next-b.ensures in
    let second = taken my.child.now a.base a.at a.inner a.k.second a.k.third c.next-b.result c.next-c.result p.1 third.1 c.next-c.ensures in
    rw (← fourth.0, ← third.0, ← second.0) c.next.ensures
