-- What is answered, by what the file holds.
use Rattle.std.proofs.Common.{◌≤◌, ℕ, List, Option, Some, None, inl, inr}
use Rattle.std.specs.Prelude.{Result, Ok, Err}
use Rattle.toml.specs.Data.{Members}
use Rattle.config.specs.Documents.{items_at}
use Rattle.config.specs.Keys.{rules}
use Rattle.config.specs.Loading.{IsContents}
use Rattle.config.specs.Outcomes.{Answers, IsDocument, OfDocument, OfHeld, told_fault}
use Rattle.config.specs.declared.fault.ConfigError.{ConfigError}
use Rattle.config.specs.declared.fault.ConfigError.TheVariants as refused
use Rattle.config.specs.declared.fault.ConfigFault.{ConfigFault}
use Rattle.config.specs.declared.reader.LoadedConfig.{LoadedConfig}
use Rattle.config.proofs.RulesInTurn.{stops_before}

module _ (told : List ℕ → Option (List ℕ)) (before mid now : ℕ) (first : before ≤ mid) (top : Members) where
  -- a count that rose since then rose since before
  document_before : (o : Option ConfigFault) (r : Result LoadedConfig ConfigError) → OfDocument told mid now top o r → OfDocument told before now top o r
  document_before None (Ok C) is = is
  document_before None (Err refused.Memory) is = is
  document_before None (Err (refused.Fault f)) (inl stops) = inl (stops_before told before mid now first 0 (items_at rules top) f stops)
  document_before None (Err (refused.Fault f)) (inr event) = inr event
  document_before (Some f) (Ok C) is = is
  document_before (Some f) (Err e) is = is

  module _ (name bytes : List ℕ) (contents : IsContents told name bytes) (document : IsDocument bytes top) where
    held : (r : Result LoadedConfig ConfigError) → OfDocument told mid now top (told_fault bytes top) r → OfHeld told before now name r
    held r is = record {
      top = top;
      holds = record { bytes = bytes; contents = contents; document = document };
      answer = document_before (told_fault bytes top) r is;
    }

    pub answered : (r : Result LoadedConfig ConfigError) → OfDocument told mid now top (told_fault bytes top) r → Answers told before now name r
    answered (Ok C) is = held (Ok C) is
    answered (Err refused.Memory) is = tt
    answered (Err (refused.Fault f)) is = inr (inr (held (Err (refused.Fault f)) is))
