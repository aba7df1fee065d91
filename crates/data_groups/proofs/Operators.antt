-- The operators other than `equals`.
use Rattle.std.proofs.Common.{◌≡◌, ℕ, Bool, List, refl}
use Rattle.std.specs.List.{position}
use Rattle.data_groups.specs.Groups.{DataGroup, Row}
use Rattle.data_groups.specs.Matches.{first_match, first_search, holds, tested_row}
use Rattle.data_groups.specs.declared.kind.ClassOp.{ClassOp}
use Rattle.data_groups.specs.declared.kind.ClassOp.TheVariants.{Equals, StartsWith, EndsWith, Contains}
use Rattle.data_groups.specs.declared.kind.GroupKind.{GroupKind}
use Rattle.data_groups.specs.declared.kind.GroupKind.TheVariants.{String}

pub match_other : (group : DataGroup) (op : ClassOp) (item : List ℕ) → (op ≡ Equals → ⊥) → tested_row group.kind (λ key. holds op item key) group.rows ≡ first_match group op item
match_other group Equals item other = absurd (other refl)
match_other group StartsWith item other = refl
match_other group EndsWith item other = refl
match_other group Contains item other = refl

pub search_other : (group : DataGroup) (op : ClassOp) (item : List ℕ) → (op ≡ Equals → ⊥) → tested_row group.kind (λ key. holds op key item) group.rows ≡ first_search group op item
search_other group Equals item other = absurd (other refl)
search_other group StartsWith item other = refl
search_other group EndsWith item other = refl
search_other group Contains item other = refl

pub texts_tested : (kind : GroupKind) (test : List ℕ → Bool) (rows : List Row) → kind ≡ String → position (λ row. test row.0) rows ≡ tested_row kind test rows
texts_tested kind test rows is = rw is refl
