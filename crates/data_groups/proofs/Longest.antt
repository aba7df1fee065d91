-- The row that is found is that of the longest network, and of several as long the first.
use Rattle.std.proofs.Common.{◌≡◌, ℕ, zero, suc, ◌<◌, ◌==◌, ◌&&◌, inl, inr, Bool, true}
use Rattle.std.proofs.Common.{⊎_elim}
use Rattle.std.proofs.Common.{false, List, [], Option, Some, None, get_or}
use Rattle.std.proofs.Common.{sym, refl, ◌∙◌, arith}
use Rattle.std.specs.Prelude.{MatchOption}
use Rattle.std.specs.List.{position}
use Rattle.std.specs.Option.{option_or}
use Rattle.std.proofs.lemmas.Bool.{cases_lt, eq-eqb, eqb-true}
use Rattle.std.proofs.lemmas.List.Quantifiers.{position-Some}
use Rattle.std.proofs.lemmas.Option.{slice_get-get_or}
use Rattle.px_bytes.specs.declared.addr.Net4.{Net4}
use Rattle.tcl_encodings.specs.Addresses.{agrees, network_of}
use Rattle.data_groups.specs.Groups.{Row}
use Rattle.data_groups.specs.Laws.{ComesFirst, HasAddress, IsLongest, LongestNetworkWins}
use Rattle.data_groups.specs.Networks.{first_of_bits, has_address, longest_below}
use Rattle.data_groups.proofs.Keys.{network_fits}
use Rattle.data_groups.proofs.Positions.{not_absent, not_before}

-- ---- the tests
both_hold : (a b : Bool) → (a && b) ≡ true → (a ≡ true) × (b ≡ true)
both_hold false b h = cc
both_hold true false h = cc
both_hold true true h = (refl, refl)

-- the test of a row that has the address, and what it says
test_of : (bits ip : ℕ) (key : Option Net4) (net : Net4) → key ≡ Some net → net.bits ≡ bits → agrees ip net ≡ true → has_address bits ip key ≡ true
test_of bits ip key net is same agree = rw (is, eq-eqb net.bits bits same, agree) refl

record Passes (bits ip : ℕ) (key : Option Net4) : Type 0 where
  net : Net4
  is : key ≡ Some net
  same : net.bits ≡ bits
  agree : agrees ip net ≡ true

passes : (bits ip : ℕ) (key : Option Net4) → has_address bits ip key ≡ true → Passes bits ip key
passes bits ip None h = cc
passes bits ip (Some net) h =
    let t = both_hold (net.bits == bits) (agrees ip net) h in
    record { net = net; is = refl; same = eqb-true net.bits bits t.0; agree = t.1 }

-- ---- among the networks of fewer than n bits
record IsLongestBelow (n : ℕ) (rows : List Row) (ip at : ℕ) : Type 0 where
  net : Net4
  is : HasAddress rows ip at net
  first : (other_at : ℕ) (other : Net4) → HasAddress rows ip other_at other → other.bits < n → ComesFirst at net other_at other

abbrev NoneBelow : ℕ → List Row → ℕ → Type 0
NoneBelow n rows ip = (at : ℕ) (net : Net4) → HasAddress rows ip at net → net.bits < n → ⊥

abbrev FoundBelow : ℕ → List Row → ℕ → Option ℕ → Type 0
FoundBelow n rows ip found = MatchOption found (NoneBelow n rows ip) (IsLongestBelow n rows ip)

-- with the networks of n bits
module _ (n ip : ℕ) (rows : List Row) where
  abbrev tested : Row → Bool
  tested row = has_address n ip (network_of row.0)

  tests : (at : ℕ) (net : Net4) (h : HasAddress rows ip at net) → net.bits ≡ n → tested h.row ≡ true
  tests at net h same = test_of n ip (network_of h.row.0) net h.network same h.agree

  -- a row of n bits has the address
  first_of_these : (at : ℕ) → position tested rows ≡ Some at → IsLongestBelow (suc n) rows ip at
  first_of_these at found =
      let no_row : Row = ([], []) in
      let is = position-Some tested rows at no_row found in
      let pass = passes n ip (network_of (get_or rows at no_row).0) is.1 in
      record {
        net = pass.net;
        is = record { row = get_or rows at no_row; stands = slice_get-get_or rows at no_row is.0; network = pass.is; agree = pass.agree };
        first = λ other_at other h fewer.
            ⊎_elim (λ short. inl (omega (arith, pass.same)))
            (λ long. let same : other.bits ≡ n = omega arith in
            inr (same ∙ sym pass.same, not_before tested rows at other_at h.row found h.stands (tests other_at other h same)))
            (cases_lt other.bits n);
      }

  -- none has
  shorter : (found : Option ℕ) → position tested rows ≡ None → FoundBelow n rows ip found → FoundBelow (suc n) rows ip found
  shorter None none below = λ at net h fewer.
      ⊎_elim (λ short. below at net h short)
      (λ long. not_absent tested rows at h.row none h.stands (tests at net h (omega arith)))
      (cases_lt net.bits n)
  shorter (Some at) none below = record {
    net = below.net;
    is = below.is;
    first = λ other_at other h fewer.
        ⊎_elim (λ short. below.first other_at other h short)
        (λ long. absurd (not_absent tested rows other_at h.row none h.stands (tests other_at other h (omega arith))))
        (cases_lt other.bits n);
  }

  with_these : (found : Option ℕ) → FoundBelow n rows ip found → FoundBelow (suc n) rows ip (option_or (first_of_bits n ip rows) found)
  with_these found below =
      elim (position tested rows) as (λ o. position tested rows ≡ o → FoundBelow (suc n) rows ip (option_or o found)) [
        | None ↦ λ none. shorter found none below
        | Some at ↦ λ h. first_of_these at h
      ] refl

found_below : (n ip : ℕ) (rows : List Row) → FoundBelow n rows ip (longest_below n ip rows)
unfolding longest_below
found_below zero ip rows = λ at net h fewer. omega arith
found_below (suc n) ip rows = with_these n ip rows (longest_below n ip rows) (found_below n ip rows)

-- ---- among all
of_all : (rows : List Row) (ip : ℕ) (found : Option ℕ) → FoundBelow 33 rows ip found
    → MatchOption found ((at : ℕ) (net : Net4) → ¬ HasAddress rows ip at net) (IsLongest rows ip)
of_all rows ip None none = λ at net h. none at net h (omega (arith, (network_fits h.row.0 net h.network).bits))
of_all rows ip (Some at) is = record {
  net = is.net;
  is = is.is;
  first = λ other_at other h. is.first other_at other h (omega (arith, (network_fits h.row.0 other h.network).bits));
}

pub longest_wins : LongestNetworkWins
longest_wins rows ip = of_all rows ip (longest_below 33 ip rows) (found_below 33 ip rows)
