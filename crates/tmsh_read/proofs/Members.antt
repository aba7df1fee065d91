-- A value at a key of a table.
use Rattle.std.proofs.Common.{◌≡◌, ℕ, true, Some, List, [], ◌∷◌, String, Global, Ordering, Less, Equal, Greater, string_bytes, refl, ◌∙◌}
use Rattle.std.proofs.lemmas.Cmp.{nat_list_cmp_total, tied_itself}
use Rattle.std.specs.BTreeMap.{insert_entry}
use Rattle.std.specs.Cmp.Lexicographic.{slice_cmp}
use Rattle.std.specs.Ordering.{match_ordering, nat_cmp}
use Rattle.std.specs.Prelude.{is_some}
use Rattle.std.specs.String.{string_cmp}
use Rattle.toml.proofs.Views.{Entry}
use Rattle.toml.specs.Data.{Data, Members, no_members, member, get_member}
use Rattle.toml.specs.View.{members_view, view}
use Rattle.toml.specs.declared.value.Value.{Value}
use Rattle.tmsh_read.specs.Tables.{with_member}

match_view : (o : Ordering) (a b c : List Entry) → members_view (match_ordering o a b c) ≡ match_ordering o (members_view a) (members_view b) (members_view c)
match_view Less a b c = refl
match_view Equal a b c = refl
match_view Greater a b c = refl

-- what the map of a table holds with an entry more
pub inserted : (es : List Entry) (k : String Global) (v : Value) → members_view (insert_entry string_cmp es k v) ≡ with_member (string_bytes k) (view v) (members_view es)
inserted [] k v = refl
inserted (e ∷ es) k v = match_view (string_cmp k e.0) _ _ _ ∙ rw (inserted es k v)

pub get_it : (k : List ℕ) (d : Data) (ms : Members) → get_member k (with_member k d ms) ≡ Some d
get_it k d no_members = rw (tied_itself nat_list_cmp_total k) refl
get_it k d (member l e ms) =
    elim (slice_cmp nat_cmp k l) as (λ o. slice_cmp nat_cmp k l ≡ o → get_member k (match_ordering o (member k d (member l e ms)) (member l d ms) (member l e (with_member k d ms))) ≡ Some d) [
      | Less ↦ λ is. rw (tied_itself nat_list_cmp_total k) refl
      | Equal ↦ λ is. rw is refl
      | Greater ↦ λ is. rw is (get_it k d ms)
    ] refl

pub has_it : (k : List ℕ) (d : Data) (ms : Members) → is_some (get_member k (with_member k d ms)) ≡ true
has_it k d ms = rw (get_it k d ms) refl
