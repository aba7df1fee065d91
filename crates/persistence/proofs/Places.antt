-- The record of an address, by its place.
use Rattle.std.proofs.Common.{◌≡◌, ℕ, ◌<◌, ◌≤◌, cond, List, [], ◌∷◌, ◌++◌, Some, None, length}
use Rattle.std.proofs.Common.{get_or, sym, ap, ◌∙◌, option_map, nat_lt, Bool}
use Rattle.std.proofs.Math.ListN.{set}
use Rattle.std.specs.List.{list_any, position}
use Rattle.std.proofs.lemmas.Bool.{cond-true, cond-false, lt-ltb, le-ltb}
use Rattle.std.proofs.lemmas.Option.{slice_get-get_or}
use Rattle.px_bytes.specs.First.{with_first}
use Rattle.px_bytes.proofs.First.{at_first, nowhere}
use Rattle.persistence.specs.Records.{is_of, kept, member_of, record_limit}
use Rattle.persistence.specs.declared.record.Record.{Record}

-- the record of an address stands at a place
pub record StandsAt (virtual_server ip : ℕ) (records : List Record) (at : ℕ) (here : Record) : Type 0 where
  pub found : Some at ≡ position (is_of virtual_server ip) records
  pub inside : at < length records
  pub is : here ≡ get_or records at here

pub member_at : {v ip : ℕ} {records : List Record} {at : ℕ} {here : Record} → StandsAt v ip records at here → Some here.member ≡ member_of v ip records
member_at {v = v} {ip = ip} {records = records} {at = at} {here = here} s =
    let first = at_first (is_of v ip) records at (sym s.found) in
    sym (ap (option_map (λ (r : Record). r.member)) (first.found ∙ slice_get-get_or records at here s.inside ∙ ap Some (sym s.is)))

pub no_member : (v ip : ℕ) (records : List Record) → None ≡ position (is_of v ip) records → None ≡ member_of v ip records
no_member v ip records none = sym (ap (option_map (λ (r : Record). r.member)) (nowhere (is_of v ip) records (sym none)).not_found)

module _ (new : Record) (records : List Record) where
  abbrev test : Record → Bool
  test = is_of new.virtual_server new.ip

  abbrev grown : List Record
  grown = cond (nat_lt (length records) record_limit) (records ++ new ∷ []) records

  pub replaced_at : {at : ℕ} {old : Record} → StandsAt new.virtual_server new.ip records at old → set records at new ≡ kept new records
  replaced_at {at = at} {old = old} s =
      let first = at_first test records at (sym s.found) in
      sym (cond-true (list_any test records) (with_first test (λ r. new) records) grown first.any ∙ first.changed (λ r. new) old (sym s.is))

  kept_none : None ≡ position test records → kept new records ≡ grown
  kept_none none = cond-false (list_any test records) _ _ (nowhere test records (sym none)).none

  pub added : None ≡ position test records → length records < 65536 → records ++ new ∷ [] ≡ kept new records
  added none room = sym (kept_none none ∙ cond-true (nat_lt (length records) record_limit) _ _ (lt-ltb _ _ room))

  pub full : None ≡ position test records → 65536 ≤ length records → records ≡ kept new records
  full none past = sym (kept_none none ∙ cond-false (nat_lt (length records) record_limit) _ _ (le-ltb _ _ past))
