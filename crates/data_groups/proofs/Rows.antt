-- What the index of rows finds is the first row whose key equals.
use Rattle.std.proofs.Common.{◌≡◌, ℕ, ℤ, zero, suc, ◌^◌, ◌<◌, Bool, true, false, List, Option, Some, None}
use Rattle.std.proofs.Common.{◌+◌, ◌-◌, ◌++◌, length, get_or, take, drop, not, cond, sym, refl, ap, ap₂, ◌∙◌, arith, option_map}
use Rattle.std.specs.Prelude.{FitsSigned, is_some}
use Rattle.std.specs.Int.{w64}
use Rattle.std.specs.List.{position}
use Rattle.std.specs.Option.{option_map_or, option_or}
use Rattle.std.specs.Str.{bytes_eq}
use Rattle.px_bytes.specs.Whole.{whole}
use Rattle.px_bytes.specs.declared.addr.Net4.{Net4}
use Rattle.tcl_encodings.specs.Addresses.{network_of}
use Rattle.std.proofs.lemmas.List.{take-append-drop}
use Rattle.data_groups.specs.Groups.{Row, bad_key, is_key}
use Rattle.data_groups.specs.Index.{KeyPlaces, first_with, place_of, with_place, key_bytes, network_bytes, number_bytes, prefix_bytes}
use Rattle.data_groups.specs.Matches.{equal_row, same_number}
use Rattle.data_groups.specs.Networks.{first_of_bits, has_address, longest_below}
use Rattle.data_groups.specs.declared.kind.GroupKind.{GroupKind}
use Rattle.data_groups.specs.declared.kind.GroupKind.TheVariants.{String, Ip, Integer}
use Rattle.data_groups.proofs.Keys.{in_network, network_fits, same_number_bytes, whole_fits}
use Rattle.data_groups.proofs.Positions.{front_settles, position-more, position-never, position-same}

-- ---- numbers
number_test : (n : ℤ) → FitsSigned w64 n → (key : Option ℤ) → ((z : ℤ) → key ≡ Some z → FitsSigned w64 z)
    → option_map_or (bytes_eq (number_bytes n)) (option_map number_bytes key) false ≡ same_number (Some n) key
number_test n fits None all = refl
number_test n fits (Some z) all = same_number_bytes n z fits (all z refl)

pub number_found : (n : ℤ) → FitsSigned w64 n → (rows : List Row) → first_with Integer rows (number_bytes n) ≡ position (λ (row : Row). same_number (Some n) (whole row.0)) rows
number_found n fits rows =
    position-same _ _ (λ (row : Row). number_test n fits (whole row.0) (whole_fits row.0)) rows

-- ---- networks
network_test : (bits ip : ℕ) → ip < 2 ^ 32 → (key : Option Net4) → ((net : Net4) → key ≡ Some net → net.ip < 2 ^ 32)
    → option_map_or (bytes_eq (prefix_bytes bits ip)) (option_map network_bytes key) false ≡ has_address bits ip key
network_test bits ip fits None all = refl
network_test bits ip fits (Some net) all = in_network bits ip net fits (all net refl)

pub prefix_found : (bits ip : ℕ) → ip < 2 ^ 32 → (rows : List Row) → first_with Ip rows (prefix_bytes bits ip) ≡ first_of_bits bits ip rows
prefix_found bits ip fits rows =
    position-same _ _ (λ (row : Row). network_test bits ip fits (network_of row.0) (λ net is. (network_fits row.0 net is).ip)) rows

-- ---- the row that is found, in a group of a kind
module _ (kind : GroupKind) (rows : List Row) (places : KeyPlaces) where
  pub text_equal : (item : List ℕ) → kind ≡ String → place_of places item ≡ first_with kind rows item → place_of places item ≡ equal_row kind item rows
  text_equal item is found = rw is (rw is at found)

  pub number_equal : (item : List ℕ) (n : ℤ) → kind ≡ Integer → whole item ≡ Some n → FitsSigned w64 n
      → place_of places (number_bytes n) ≡ first_with kind rows (number_bytes n) → place_of places (number_bytes n) ≡ equal_row kind item rows
  number_equal item n is reads fits found = rw (is, reads) (rw is at found ∙ number_found n fits rows)

  pub no_number : (item : List ℕ) → kind ≡ Integer → whole item ≡ None → None ≡ equal_row kind item rows
  no_number item is reads = rw (is, reads) (sym (position-never rows))

  pub prefix_equal : (bits ip : ℕ) → kind ≡ Ip → ip < 2 ^ 32 → place_of places (prefix_bytes bits ip) ≡ first_with kind rows (prefix_bytes bits ip)
      → place_of places (prefix_bytes bits ip) ≡ first_of_bits bits ip rows
  prefix_equal bits ip is fits found = rw is at found ∙ prefix_found bits ip fits rows

-- ---- a network of one bit fewer
longest_step : (n ip : ℕ) (rows : List Row) → longest_below (suc n) ip rows ≡ option_or (first_of_bits n ip rows) (longest_below n ip rows)
unfolding longest_below
longest_step n ip rows = refl

pub longest_none : (ip : ℕ) (rows : List Row) → longest_below 0 ip rows ≡ None
unfolding longest_below
longest_none ip rows = refl

here : (found rest : Option ℕ) → is_some found ≡ true → found ≡ option_or found rest
here None rest some = cc
here (Some at) rest some = refl

shorter : (found rest : Option ℕ) → is_some found ≡ false → option_or found rest ≡ rest
shorter None rest none = refl
shorter (Some at) rest none = cc

module _ (ip : ℕ) (rows : List Row) (found : Option ℕ) where
  pub longest_here : (bits : ℕ) → 0 < bits → found ≡ first_of_bits (bits - 1) ip rows → is_some found ≡ true → found ≡ longest_below bits ip rows
  longest_here zero some is there = absurd (omega arith)
  longest_here (suc n) some is there =
      let one_less : suc n - 1 ≡ n = omega arith in
      here found (longest_below n ip rows) there ∙ ap (λ o. option_or o (longest_below n ip rows)) (is ∙ ap (λ k. first_of_bits k ip rows) one_less) ∙ sym (longest_step n ip rows)

  pub longest_shorter : (bits : ℕ) → 0 < bits → found ≡ first_of_bits (bits - 1) ip rows → is_some found ≡ false → longest_below bits ip rows ≡ longest_below (bits - 1) ip rows
  longest_shorter zero some is none = absurd (omega arith)
  longest_shorter (suc n) some is none =
      let one_less : suc n - 1 ≡ n = omega arith in
      longest_step n ip rows ∙ ap (λ o. option_or o (longest_below n ip rows)) (sym (is ∙ ap (λ k. first_of_bits k ip rows) one_less))
      ∙ shorter found (longest_below n ip rows) none ∙ ap (λ k. longest_below k ip rows) (sym one_less)

-- ---- the index of one row more
still : {X Y : Type 0} (f : X → Y) (o : Option X) → is_some o ≡ is_some (option_map f o)
still f None = refl
still f (Some x) = refl

key_test : (kind : GroupKind) (key : List ℕ) → is_key kind key ≡ is_some (key_bytes kind key)
key_test String key = refl
key_test Ip key = still network_bytes (network_of key)
key_test Integer key = still number_bytes (whole key)

module _ (kind : GroupKind) (rows : List Row) (at : ℕ) (row : Row) (inside : at < length rows) (stands : get_or rows at row ≡ row) where
  bad_more : bad_key kind (take (at + 1) rows) ≡ option_or (bad_key kind (take at rows)) (cond (not (is_some (key_bytes kind row.0))) (Some at) None)
  bad_more =
      position-more (λ (r : Row). not (is_key kind r.0)) rows at row inside
      ∙ ap (λ (r : Row). option_or (bad_key kind (take at rows)) (cond (not (is_key kind r.0)) (Some at) None)) stands
      ∙ ap (λ b. option_or (bad_key kind (take at rows)) (cond (not b) (Some at) None)) (key_test kind row.0)

  pub bad_here : bad_key kind (take at rows) ≡ None → key_bytes kind row.0 ≡ None → bad_key kind rows ≡ Some at
  bad_here good none =
      let more = bad_more ∙ ap₂ (λ o k. option_or o (cond (not (is_some k)) (Some at) None)) good none in
      let all : take (at + 1) rows ++ drop (at + 1) rows ≡ rows = take-append-drop (at + 1) rows in
      ap (bad_key kind) (sym all) ∙ front_settles (λ (r : Row). not (is_key kind r.0)) (take (at + 1) rows) (drop (at + 1) rows) at more

  pub good_more : (bytes : List ℕ) → bad_key kind (take at rows) ≡ None → key_bytes kind row.0 ≡ Some bytes → bad_key kind (take (at + 1) rows) ≡ None
  good_more bytes good some = bad_more ∙ ap₂ (λ o k. option_or o (cond (not (is_some k)) (Some at) None)) good some

  pub found_more : (places new : KeyPlaces) (bytes : List ℕ) → key_bytes kind row.0 ≡ Some bytes
      → ((asked : List ℕ) → place_of places asked ≡ first_with kind (take at rows) asked)
      → ((asked : List ℕ) → place_of new asked ≡ with_place places bytes at asked)
      → (asked : List ℕ) → place_of new asked ≡ first_with kind (take (at + 1) rows) asked
  found_more places new bytes some before added asked =
      let test : Row → Bool = λ (r : Row). option_map_or (bytes_eq asked) (key_bytes kind r.0) false in
      added asked ∙ ap (λ o. option_or o (cond (bytes_eq asked bytes) (Some at) None)) (before asked)
      ∙ sym (position-more test rows at row inside
      ∙ ap (λ (r : Row). option_or (first_with kind (take at rows) asked) (cond (test r) (Some at) None)) stands
      ∙ ap (λ k. option_or (first_with kind (take at rows) asked) (cond (option_map_or (bytes_eq asked) k false) (Some at) None)) some)
