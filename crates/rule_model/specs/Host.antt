-- What a host command gives; px_bytes has the types, so that a table of host commands needs no
-- evaluator.
pub use Rattle.px_bytes.specs.Host.{Effect, Logged, Sent, HostStep, Gives, Faults, Asks}
