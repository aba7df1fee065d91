-- The fault of a document.
use Rattle.std.proofs.Common.{◌≡◌, ℕ, List, Option, None, ap, ◌∙◌}
use Rattle.toml.specs.Data.{Members}
use Rattle.config.specs.Faults.{after_faults}
use Rattle.config.specs.declared.config.PoolSettings.{PoolSettings}
use Rattle.config.specs.declared.fault.ConfigFault.{ConfigFault}
use Rattle.pool_monitor.specs.Documents.{document_fault, faults_with, pool_place}

pub fault_found : (ps : List PoolSettings) (ms : Members) (pools : List ℕ → Option ℕ) (told : Option ConfigFault) → pools ≡ pool_place ps
    → told ≡ after_faults (faults_with pools ms) None → told ≡ document_fault ps ms
unfolding document_fault
fault_found ps ms pools told names is = is ∙ ap (λ p. after_faults (faults_with p ms) None) names
