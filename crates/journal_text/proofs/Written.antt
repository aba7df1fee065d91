-- What is written of an event is read as the same event.
use Rattle.std.proofs.Common.{◌≡◌, ◌⊎◌, inl, inr, ℕ, ◌/◌, ◌==◌, ◌^◌, ◌<◌, Bool, true, false, List, [], ◌∷◌, ◌++◌}
use Rattle.std.proofs.Common.{length, map, Some, Ok, sym, refl, subst, arith}
use Rattle.std.specs.Fmt.{decimal}
use Rattle.std.specs.List.{All, list_all}
use Rattle.std.proofs.lemmas.Fmt.{decimal_nonempty}
use Rattle.px_bytes.specs.Address.{ip_text}
use Rattle.px_bytes.specs.Hexadecimal.{hex_text}
use Rattle.px_bytes.specs.HexRead.{hex_bytes}
use Rattle.px_bytes.proofs.HexReads.{reads_printed}
use Rattle.journal_text.specs.Verb.{verb_text}
use Rattle.journal_text.specs.Form.{Form, Number, Hex, Name, Ip, Member, Health, health_text, forms}
use Rattle.journal_text.specs.Form.{Field, Numbered, Bytes, Named, From, At, Up, field_text}
use Rattle.journal_text.specs.Form.{fields, verb_of}
use Rattle.journal_text.specs.Reading.{Reads, ReadAs}
use Rattle.journal_text.specs.Line.{is_blank, is_word, words_of, event_text, IsSkipped}
use Rattle.journal_text.specs.Line.{NoneEmpty, WordsSpell}
use Rattle.journal_text.specs.Laws.{IsWritable, AllWritable, WrittenIsRead}
use Rattle.journal_text.specs.declared.verb.EventVerb.{EventVerb}
use Rattle.journal_text.specs.declared.verb.EventVerb.TheVariants as verb
use Rattle.journal_text.proofs.Addresses.{Without, decimal_without, ip_without, addr_without, is_small_addr}
use Rattle.journal_text.proofs.Clean.{no_digit, name_free, hex_free, health_free}
use Rattle.journal_text.proofs.Spacing.{AllWithout, tail, spaced_tail, words_spaced}
use Rattle.journal_text.proofs.OneEvent.{Small, AllSmall, forms_small}

-- a word holds no blank, isn't empty, and reads as what was written
record Written (form : Form) (field : Field) : Type 0 where
  free : Without is_blank (field_text field)
  some : is_word (field_text field) ≡ true
  reads : Reads form (field_text field) field

long_word : (word : List ℕ) → 0 < length word → is_word word ≡ true
long_word [] h = absurd (let no : 0 < 0 = h in omega (arith, no))
long_word (x ∷ xs) h = refl

joined_word : (a b : List ℕ) → is_word a ≡ true → is_word (a ++ b) ≡ true
joined_word [] b h = cc
joined_word (x ∷ xs) b h = refl

number_word : (n : ℕ) → n < 2 ^ 64 → is_word (decimal n) ≡ true
number_word n fits = long_word (decimal n) (decimal_nonempty n fits)

ip_word : (ip : ℕ) → ip < 2 ^ 32 → is_word (ip_text ip) ≡ true
ip_word ip small = joined_word _ _ (joined_word _ _ (joined_word _ _ (joined_word _ _ (joined_word _ _ (joined_word (decimal (ip / 2 ^ 24)) _ (number_word (ip / 2 ^ 24) (omega arith)))))))

health_word : (up : Bool) → is_word (health_text up) ≡ true
health_word true = refl
health_word false = refl

hex_back : (b : ℕ) (bs : List ℕ) → All (λ byte. byte < 256) (b ∷ bs) → hex_bytes (hex_text (b ∷ bs)) ≡ Some (b ∷ bs)
hex_back b bs small = reads_printed ℕ (hex_text (b ∷ bs)) (Ok (hex_bytes (hex_text (b ∷ bs)))) refl b bs small refl

written : (form : Form) → Small form → (field : Field) → IsWritable form field → Written form field
written (Number most) small (Numbered n) h =
    let fits : n < 2 ^ 64 = omega (arith, h, small) in
    record { free = decimal_without is_blank no_digit n fits; some = number_word n fits; reads = (refl, h) }
written Hex small (Bytes []) h = absurd (let no : 0 < 0 = h.0 in omega (arith, no))
written Hex small (Bytes (b ∷ bs)) h = record { free = hex_free (b ∷ bs); some = refl; reads = hex_back b bs h.1 }
written Name small (Named name) h = record { free = name_free name h.1; some = long_word name h.0; reads = refl }
written Ip small (From ip) h = record { free = ip_without is_blank no_digit refl ip h; some = ip_word ip h; reads = (refl, h) }
written Member small (At addr) h = record { free = addr_without is_blank no_digit refl refl addr (is_small_addr addr h); some = joined_word _ _ (joined_word _ _ (ip_word addr.ip h.ip)); reads = (refl, h) }
written Health small (Up up) h = record { free = health_free up; some = health_word up; reads = refl }
written (Number most) small (Bytes b) h = absurd h
written (Number most) small (Named t) h = absurd h
written (Number most) small (From ip) h = absurd h
written (Number most) small (At a) h = absurd h
written (Number most) small (Up u) h = absurd h
written Hex small (Numbered n) h = absurd h
written Hex small (Named t) h = absurd h
written Hex small (From ip) h = absurd h
written Hex small (At a) h = absurd h
written Hex small (Up u) h = absurd h
written Name small (Numbered n) h = absurd h
written Name small (Bytes b) h = absurd h
written Name small (From ip) h = absurd h
written Name small (At a) h = absurd h
written Name small (Up u) h = absurd h
written Ip small (Numbered n) h = absurd h
written Ip small (Bytes b) h = absurd h
written Ip small (Named t) h = absurd h
written Ip small (At a) h = absurd h
written Ip small (Up u) h = absurd h
written Member small (Numbered n) h = absurd h
written Member small (Bytes b) h = absurd h
written Member small (Named t) h = absurd h
written Member small (From ip) h = absurd h
written Member small (Up u) h = absurd h
written Health small (Numbered n) h = absurd h
written Health small (Bytes b) h = absurd h
written Health small (Named t) h = absurd h
written Health small (From ip) h = absurd h
written Health small (At a) h = absurd h

record AllWritten (fs : List Form) (read : List Field) : Type 0 where
  free : AllWithout (map field_text read)
  some : list_all is_word (map field_text read) ≡ true
  reads : ReadAs fs (map field_text read) read

all_written : (fs : List Form) → AllSmall fs → (read : List Field) → AllWritable fs read → AllWritten fs read
all_written [] small [] h = record { free = tt; some = refl; reads = tt }
all_written [] small (f ∷ read) h = absurd h
all_written (form ∷ fs) small [] h = absurd h
all_written (form ∷ fs) small (f ∷ read) h =
    let first = written form small.0 f h.0 in
    let rest = all_written fs small.1 read h.1 in
    record { free = (first.free, rest.free); some = rw first.some rest.some; reads = (first.reads, rest.reads) }

-- the first word of a line holds no blank, and begins neither with `#` nor with `>`
record IsVerb (text : List ℕ) : Type 0 where
  free : Without is_blank text
  some : is_word text ≡ true
  shown : (more : List ℕ) → IsSkipped (text ++ more) → ⊥

not_first : (x : ℕ) → (x == 35) ≡ false → (x == 62) ≡ false → (x ≡ 35) ⊎ (x ≡ 62) → ⊥
not_first x a b (inl e) = grind (arith, e, a)
not_first x a b (inr e) = grind (arith, e, b)

verb_is : (v : EventVerb) → IsVerb (verb_text v)
verb_is verb.Accept = record { free = (refl, (refl, (refl, (refl, (refl, (refl, tt)))))); some = refl; shown = λ more. not_first 97 refl refl }
verb_is verb.Client = record { free = (refl, (refl, (refl, (refl, (refl, (refl, tt)))))); some = refl; shown = λ more. not_first 99 refl refl }
verb_is verb.ClientEnd = record { free = (refl, (refl, (refl, (refl, (refl, (refl, (refl, (refl, (refl, (refl, tt)))))))))); some = refl; shown = λ more. not_first 99 refl refl }
verb_is verb.ClientReset = record { free = (refl, (refl, (refl, (refl, (refl, (refl, (refl, (refl, (refl, (refl, (refl, (refl, tt)))))))))))); some = refl; shown = λ more. not_first 99 refl refl }
verb_is verb.Connected = record { free = (refl, (refl, (refl, (refl, (refl, (refl, (refl, (refl, (refl, tt))))))))); some = refl; shown = λ more. not_first 99 refl refl }
verb_is verb.Refused = record { free = (refl, (refl, (refl, (refl, (refl, (refl, (refl, tt))))))); some = refl; shown = λ more. not_first 114 refl refl }
verb_is verb.Server = record { free = (refl, (refl, (refl, (refl, (refl, (refl, tt)))))); some = refl; shown = λ more. not_first 115 refl refl }
verb_is verb.ServerEnd = record { free = (refl, (refl, (refl, (refl, (refl, (refl, (refl, (refl, (refl, (refl, tt)))))))))); some = refl; shown = λ more. not_first 115 refl refl }
verb_is verb.ServerReset = record { free = (refl, (refl, (refl, (refl, (refl, (refl, (refl, (refl, (refl, (refl, (refl, (refl, tt)))))))))))); some = refl; shown = λ more. not_first 115 refl refl }
verb_is verb.ClientTook = record { free = (refl, (refl, (refl, (refl, (refl, (refl, (refl, (refl, (refl, (refl, (refl, tt))))))))))); some = refl; shown = λ more. not_first 99 refl refl }
verb_is verb.ServerTook = record { free = (refl, (refl, (refl, (refl, (refl, (refl, (refl, (refl, (refl, (refl, (refl, tt))))))))))); some = refl; shown = λ more. not_first 115 refl refl }
verb_is verb.Tick = record { free = (refl, (refl, (refl, (refl, tt)))); some = refl; shown = λ more. not_first 116 refl refl }
verb_is verb.Turn = record { free = (refl, (refl, (refl, (refl, tt)))); some = refl; shown = λ more. not_first 116 refl refl }
verb_is verb.Run = record { free = (refl, (refl, (refl, tt))); some = refl; shown = λ more. not_first 114 refl refl }
verb_is verb.Mark = record { free = (refl, (refl, (refl, (refl, tt)))); some = refl; shown = λ more. not_first 109 refl refl }

pub written_is_read : WrittenIsRead
written_is_read event writable within =
    let v = verb_of event in
    let first = verb_is v in
    let rest = all_written (forms v) (forms_small v) (fields event) writable in
    let words : words_of (event_text event) ≡ verb_text v ∷ map field_text (fields event) = words_spaced (verb_text v) (map field_text (fields event)) first.free rest.free in
    let none : NoneEmpty (verb_text v ∷ map field_text (fields event)) = rw first.some rest.some in
    let spelled : WordsSpell (words_of (event_text event)) event = record { none_empty = subst NoneEmpty (sym words) none; rest = map field_text (fields event); words_are = words; read = rest.reads } in
    let shown : IsSkipped (event_text event) → ⊥ = subst (λ t. IsSkipped t → ⊥) (sym (spaced_tail (verb_text v) (map field_text (fields event)))) (first.shown (tail (map field_text (fields event)))) in
    (record { within = within; spelled = spelled }, shown)
