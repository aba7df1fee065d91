-- What stands at a key of a table to which entries were put.
use Rattle.std.proofs.Common.{◌≡◌, ℕ, false, List, [], ◌∷◌, Option, Some, None, Ordering, Less, Equal, Greater, refl, sym, ap, subst, ◌∙◌}
use Rattle.std.proofs.lemmas.Map.Lookups.{exact_bytes}
use Rattle.std.specs.Cmp.Lexicographic.{slice_cmp}
use Rattle.std.specs.Ordering.{is_eq, match_ordering, nat_cmp}
use Rattle.toml.specs.Data.{Data, Members, no_members, member, get_member}
use Rattle.tmsh_laws.proofs.Lines.{put}
use Rattle.tmsh_laws.proofs.Tables.{Entries, puts}
use Rattle.tmsh_read.proofs.Members.{get_it}
use Rattle.tmsh_read.specs.Tables.{with_member}

-- another key
abbrev pub Differ : List ℕ → List ℕ → Type 0
Differ k l = is_eq (slice_cmp nat_cmp k l) ≡ false

passed : {A : Type 0} (o : Ordering) (a b : A) → is_eq o ≡ false → match_ordering o a b a ≡ a
passed Less a b other = refl
passed Equal a b other = cc
passed Greater a b other = refl

passes : (k l : List ℕ) (d : Data) (ms : Members) → Differ k l → get_member k (member l d ms) ≡ get_member k ms
passes k l d ms other = passed (slice_cmp nat_cmp k l) (get_member k ms) (Some d) other

-- at another key nothing changes
get_other : (v : List ℕ) (d : Data) (k : List ℕ) (ms : Members) → Differ k v → get_member k (with_member v d ms) ≡ get_member k ms
get_other v d k no_members other = passes k v d no_members other
get_other v d k (member l e ms) other =
    elim (slice_cmp nat_cmp v l) as (λ o. slice_cmp nat_cmp v l ≡ o → get_member k (match_ordering o (member v d (member l e ms)) (member l d ms) (member l e (with_member v d ms))) ≡ get_member k (member l e ms)) [
      | Less ↦ λ is. passes k v d (member l e ms) other
      | Equal ↦ λ is. (let apart : Differ k l = subst (Differ k) (exact_bytes v l is) other in passes k l d ms apart ∙ sym (passes k l e ms apart))
      | Greater ↦ λ is. ap (λ r. match_ordering (slice_cmp nat_cmp k l) r (Some e) r) (get_other v d k ms other)
    ] refl

abbrev pub or_else : Option Data → Option Data → Option Data
or_else None o = o
or_else (Some d) o = Some d

pub or_nothing : (o : Option Data) → or_else o None ≡ o
or_nothing None = refl
or_nothing (Some d) = refl

same_each : {A : Type 0} (o : Ordering) (a : A) → a ≡ match_ordering o a a a
same_each Less a = refl
same_each Equal a = refl
same_each Greater a = refl

get_put : (k l : List ℕ) (o : Option Data) (ms : Members) → get_member k (put l o ms) ≡ match_ordering (slice_cmp nat_cmp k l) (get_member k ms) (or_else o (get_member k ms)) (get_member k ms)
get_put k l None ms = same_each (slice_cmp nat_cmp k l) (get_member k ms)
get_put k l (Some d) ms =
    elim (slice_cmp nat_cmp k l) as (λ o. slice_cmp nat_cmp k l ≡ o → get_member k (with_member l d ms) ≡ match_ordering o (get_member k ms) (Some d) (get_member k ms)) [
      | Less ↦ λ is. get_other l d k ms (ap is_eq is)
      | Equal ↦ λ is. subst (λ x. get_member x (with_member l d ms) ≡ Some d) (sym (exact_bytes k l is)) (get_it l d ms)
      | Greater ↦ λ is. get_other l d k ms (ap is_eq is)
    ] refl

-- the last of the entries of a key, unless it is none
abbrev pub found : List ℕ → Entries → Option Data → Option Data
found k [] o = o
found k (e ∷ es) o = found k es (match_ordering (slice_cmp nat_cmp k e.0) o (or_else e.1 o) o)

pub get_puts : (k : List ℕ) (es : Entries) (ms : Members) → get_member k (puts es ms) ≡ found k es (get_member k ms)
get_puts k [] ms = refl
get_puts k (e ∷ es) ms = get_puts k es (put e.0 e.1 ms) ∙ ap (found k es) (get_put k e.0 e.1 ms)
