-- The fault of a document.
use Rattle.std.proofs.Common.{◌≡◌, Option, None, ap, ◌∙◌}
use Rattle.toml.specs.Data.{Members}
use Rattle.config.specs.Documents.{Names, document_fault, faults_with, names_in}
use Rattle.config.specs.Faults.{after_faults}
use Rattle.config.specs.declared.fault.ConfigFault.{ConfigFault}

pub fault_found : (ms : Members) (n : Names) (told : Option ConfigFault) → n ≡ names_in ms → told ≡ after_faults (faults_with n ms) None → told ≡ document_fault ms
unfolding document_fault
fault_found ms n told names is = is ∙ ap (λ m. after_faults (faults_with m ms) None) names
