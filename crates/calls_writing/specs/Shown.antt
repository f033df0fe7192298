-- Lists as they are laid, member by member. Definitions for the code (RULES.md, A13, A15).
use Rattle.std.specs.Prelude.{◌≡◌, ℕ, Bool, cond, ◌||◌, List, [], ◌∷◌, ◌++◌, Option, Some, None}
use Rattle.lists.specs.Lists.{some_in}
use Rattle.text_writing.specs.Laying.{LaidAt}
use Rattle.calls_writing.specs.declared.shown.Shown.{Shown}
use Rattle.calls_writing.specs.Words.{tab, comma, behind_each}

-- A13, A15: members of a list as they are laid: each behind a comma, but the first of all behind the tab of the list's field
abbrev pub member_text : Bool → List (List ℕ) → List ℕ
member_text any [] = []
member_text any (f ∷ fs) = (cond any comma tab ∷ f) ++ behind_each comma fs

-- A13, A15: what may be a member: its text, where it is one
abbrev pub member_of : {A : Type 0} → (A → List ℕ) → Option A → List (List ℕ)
member_of text (Some a) = text a ∷ []
member_of text None = []

-- A13, A15: what laying members behind those that a list has leaves: the buffer, the end, and whether the list has a member now
pub record ListedAt (before : List ℕ) (from : Shown) (members : List (List ℕ)) (to : Shown) (after : List ℕ) : Type 0 where
  pub text : LaidAt before from.end (member_text from.any members) to.end after
  pub some : to.any ≡ (from.any || some_in members)
