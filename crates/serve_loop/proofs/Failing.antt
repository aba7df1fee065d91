-- What a fault comes of.
use Rattle.std.proofs.Common.{◌≡◌, ℕ, ◌≤◌, inl, inr, sym, subst, arith}
use Rattle.px_outside.specs.Outside.{Rose}
use Rattle.serve_loop.specs.declared.fault.ServeFault.{ServeFault}
use Rattle.serve_loop.specs.declared.fault.ServeFault.TheVariants as fault
use Rattle.serve_loop.specs.Faults.{FromNet, FromSink, FromNetOrSink}

rose_later : (b m n : ℕ) → b ≤ m → Rose m n → Rose b n
rose_later b m n le (inl less) = inl (omega (arith, le, less))
rose_later b m n le (inr full) = inr full

-- where the count didn't fall before
pub from_later : (b m n : ℕ) (why : ServeFault) → b ≤ m → FromNet m n why → FromNet b n why
from_later b m n fault.Net le rose = rose_later b m n le rose
from_later b m n fault.Write le never = never
from_later b m n fault.Memory le free = tt

pub from_memory : (b n : ℕ) (why : ServeFault) → why ≡ fault.Memory → FromNet b n why
from_memory b n why is = subst (FromNet b n) (sym is) tt

pub of_net : (b n c d : ℕ) (why : ServeFault) → FromNet b n why → FromNetOrSink b n c d why
of_net b n c d fault.Net rose = rose
of_net b n c d fault.Write never = absurd never
of_net b n c d fault.Memory free = tt

pub of_sink : (b n c d : ℕ) (why : ServeFault) → FromSink c d why → FromNetOrSink b n c d why
of_sink b n c d fault.Net never = absurd never
of_sink b n c d fault.Write rose = rose
of_sink b n c d fault.Memory free = tt

-- where neither count fell before
pub either_later : (b m n c o d : ℕ) (why : ServeFault) → b ≤ m → c ≤ o → FromNetOrSink m n o d why → FromNetOrSink b n c d why
either_later b m n c o d fault.Net le more rose = rose_later b m n le rose
either_later b m n c o d fault.Write le more rose = rose_later c o d more rose
either_later b m n c o d fault.Memory le more free = tt
