-- A word of each form was read as a field of its own kind.
use Rattle.std.proofs.Common.{◌≡◌, ℕ, ◌^◌, ◌<◌, ◌≤◌, Bool, List, Some, refl}
use Rattle.std.specs.Fmt.{decimal}
use Rattle.px_bytes.specs.Address.{ip_text, addr_text, IsAddr}
use Rattle.px_bytes.specs.HexRead.{hex_bytes}
use Rattle.px_bytes.specs.declared.addr.Addr.{Addr}
use Rattle.journal_text.specs.Form.{Number, Hex, Name, Ip, Member, Health, health_text}
use Rattle.journal_text.specs.Form.{Field, Numbered, Bytes, Named, From, At, Up}
use Rattle.journal_text.specs.Reading.{Reads}

pub number_read : (most : ℕ) (word : List ℕ) (field : Field) → Reads (Number most) word field → (x : ℕ) × (field ≡ Numbered x) × ((word ≡ decimal x) × (x ≤ most))
number_read most word (Numbered x) r = (x, refl, r)
number_read most word (Bytes x) r = absurd r
number_read most word (Named x) r = absurd r
number_read most word (From x) r = absurd r
number_read most word (At x) r = absurd r
number_read most word (Up x) r = absurd r

pub hex_read : (word : List ℕ) (field : Field) → Reads Hex word field → (x : List ℕ) × (field ≡ Bytes x) × (hex_bytes word ≡ Some x)
hex_read word (Numbered x) r = absurd r
hex_read word (Bytes x) r = (x, refl, r)
hex_read word (Named x) r = absurd r
hex_read word (From x) r = absurd r
hex_read word (At x) r = absurd r
hex_read word (Up x) r = absurd r

pub name_read : (word : List ℕ) (field : Field) → Reads Name word field → (x : List ℕ) × (field ≡ Named x) × (word ≡ x)
name_read word (Numbered x) r = absurd r
name_read word (Bytes x) r = absurd r
name_read word (Named x) r = (x, refl, r)
name_read word (From x) r = absurd r
name_read word (At x) r = absurd r
name_read word (Up x) r = absurd r

pub ip_read : (word : List ℕ) (field : Field) → Reads Ip word field → (x : ℕ) × (field ≡ From x) × ((word ≡ ip_text x) × (x < 2 ^ 32))
ip_read word (Numbered x) r = absurd r
ip_read word (Bytes x) r = absurd r
ip_read word (Named x) r = absurd r
ip_read word (From x) r = (x, refl, r)
ip_read word (At x) r = absurd r
ip_read word (Up x) r = absurd r

pub member_read : (word : List ℕ) (field : Field) → Reads Member word field → (x : Addr) × (field ≡ At x) × ((word ≡ addr_text x) × IsAddr x)
member_read word (Numbered x) r = absurd r
member_read word (Bytes x) r = absurd r
member_read word (Named x) r = absurd r
member_read word (From x) r = absurd r
member_read word (At x) r = (x, refl, r)
member_read word (Up x) r = absurd r

pub health_read : (word : List ℕ) (field : Field) → Reads Health word field → (x : Bool) × (field ≡ Up x) × (word ≡ health_text x)
health_read word (Numbered x) r = absurd r
health_read word (Bytes x) r = absurd r
health_read word (Named x) r = absurd r
health_read word (From x) r = absurd r
health_read word (At x) r = absurd r
health_read word (Up x) r = (x, refl, r)
