-- A link is given once, and is one connection's.
use Rattle.std.specs.Prelude.{◌≡◌, ◌⊎◌, ℕ, List, [], ◌∷◌, ◌++◌, None, Ok, nat_eq}
use Rattle.std.specs.List.{AllByRecursion, IsDistinct}
use Rattle.px_outside.specs.declared.answers.Accepted.TheVariants as accepted
use Rattle.px_outside.specs.Net.{Call, Accept, Connect}
use Rattle.serve_loop.specs.declared.links.Links.{Links}
use Rattle.serve_loop.specs.Links.{owner_in}

-- the link that a call gave
abbrev pub link_given : Call → List ℕ
link_given (Accept slot (Ok (accepted.One link from))) = link ∷ []
link_given (Connect to (Ok link)) = link ∷ []
link_given call = []

abbrev pub links_given : List Call → List ℕ
links_given [] = []
links_given (call ∷ calls) = link_given call ++ links_given calls

-- these links were given, each once and none of them before; what was given before stays given
pub record GivesOnce (gave gave' : ℕ → Type 0) (links : List ℕ) : Type 0 where
  pub none_before : AllByRecursion (λ l. gave l → ⊥) links
  pub all_now : AllByRecursion gave' links
  pub once : IsDistinct nat_eq links
  pub lasts : (l : ℕ) → gave l → gave' l

-- Of a link that was given before the owner is the same, or there is none: no other connection gets
-- it.
pub record OwnersStay (gave : ℕ → Type 0) (old new : Links) : Type 0 where
  pub stays : (l : ℕ) → gave l → (owner_in new l ≡ owner_in old l) ⊎ (owner_in new l ≡ None)
