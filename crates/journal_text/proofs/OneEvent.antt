-- A line spells one event at most: its first word is one verb's, and each further word was read as
-- one value.
use Rattle.std.proofs.Common.{◌≡◌, ℕ, ◌^◌, ◌<◌, Bool, true, false, List, [], ◌∷◌, refl, sym}
use Rattle.std.proofs.Common.{ap, subst, ◌∙◌, arith}
use Rattle.std.proofs.lemmas.Fmt.{decimal_injective}
use Rattle.journal_text.specs.Form.{Form, Number, Hex, Name, Ip, Member, Health, health_text}
use Rattle.journal_text.specs.Form.{Field, Numbered, Bytes, Named, From, At, Up}
use Rattle.journal_text.specs.Form.{forms, fields, verb_of}
use Rattle.journal_text.specs.Reading.{Reads, ReadAs}
use Rattle.journal_text.specs.Laws.{OneEvent}
use Rattle.core_events.specs.declared.event.Event.{Event}
use Rattle.core_events.specs.declared.event.Event.TheVariants as event
use Rattle.journal_text.specs.declared.verb.EventVerb.{EventVerb}
use Rattle.journal_text.specs.declared.verb.EventVerb.TheVariants as verb
use Rattle.journal_text.proofs.FirstWord.{same_verb}
use Rattle.journal_text.proofs.ReadFields.{number_read, hex_read, name_read, ip_read, member_read}
use Rattle.journal_text.proofs.ReadFields.{health_read}
use Rattle.journal_text.proofs.Addresses.{same_ip, same_addr_text, is_small_addr}

-- the greatest number of a form has 64 bits
abbrev pub Small : Form → Type 0
Small (Number most) = most < 2 ^ 64
Small form = Unit {0}

abbrev pub AllSmall : List Form → Type 0
AllSmall [] = Unit {0}
AllSmall (form ∷ forms) = Small form × AllSmall forms

same_health : (a b : Bool) → health_text a ≡ health_text b → a ≡ b
same_health true true e = refl
same_health false false e = refl
same_health true false e = cc
same_health false true e = cc

reads_one : (form : Form) → Small form → (word : List ℕ) (f g : Field) → Reads form word f → Reads form word g → f ≡ g
reads_one (Number most) small word f g r s =
    let a = number_read most word f r in
    let b = number_read most word g s in
    a.1 ∙ ap Numbered (decimal_injective a.0 b.0 (omega (arith, a.2.1, small)) (omega (arith, b.2.1, small)) (sym a.2.0 ∙ b.2.0)) ∙ sym b.1
reads_one Hex small word f g r s =
    let a = hex_read word f r in
    let b = hex_read word g s in
    let same : a.0 ≡ b.0 = cc (a.2, b.2) in
    a.1 ∙ ap Bytes same ∙ sym b.1
reads_one Name small word f g r s =
    let a = name_read word f r in
    let b = name_read word g s in
    a.1 ∙ ap Named (sym a.2 ∙ b.2) ∙ sym b.1
reads_one Ip small word f g r s =
    let a = ip_read word f r in
    let b = ip_read word g s in
    a.1 ∙ ap From (same_ip a.0 b.0 a.2.1 b.2.1 (sym a.2.0 ∙ b.2.0)) ∙ sym b.1
reads_one Member small word f g r s =
    let a = member_read word f r in
    let b = member_read word g s in
    a.1 ∙ ap At (same_addr_text a.0 b.0 (is_small_addr a.0 a.2.1) (is_small_addr b.0 b.2.1) (sym a.2.0 ∙ b.2.0)) ∙ sym b.1
reads_one Health small word f g r s =
    let a = health_read word f r in
    let b = health_read word g s in
    a.1 ∙ ap Up (same_health a.0 b.0 (sym a.2 ∙ b.2)) ∙ sym b.1

read_one : (fs : List Form) → AllSmall fs → (words : List (List ℕ)) (a b : List Field) → ReadAs fs words a → ReadAs fs words b → a ≡ b
read_one [] small [] [] [] r s = refl
read_one [] small [] [] (y ∷ b) r s = absurd s
read_one [] small [] (x ∷ a) b r s = absurd r
read_one [] small (word ∷ words) a b r s = absurd r
read_one (form ∷ fs) small [] a b r s = absurd r
read_one (form ∷ fs) small (word ∷ words) [] b r s = absurd r
read_one (form ∷ fs) small (word ∷ words) (x ∷ a) [] r s = absurd s
read_one (form ∷ fs) small (word ∷ words) (x ∷ a) (y ∷ b) r s =
    let first = reads_one form small.0 word x y r.0 s.0 in
    let rest = read_one fs small.1 words a b r.1 s.1 in
    cc

pub forms_small : (v : EventVerb) → AllSmall (forms v)
forms_small verb.Accept = (omega arith, (tt, (tt, (omega arith, tt))))
forms_small verb.Client = (omega arith, (tt, tt))
forms_small verb.ClientEnd = (omega arith, tt)
forms_small verb.ClientReset = (omega arith, tt)
forms_small verb.Connected = (omega arith, tt)
forms_small verb.Refused = (omega arith, tt)
forms_small verb.Server = (omega arith, (tt, tt))
forms_small verb.ServerEnd = (omega arith, tt)
forms_small verb.ServerReset = (omega arith, tt)
forms_small verb.ClientTook = (omega arith, (omega arith, tt))
forms_small verb.ServerTook = (omega arith, (omega arith, tt))
forms_small verb.Tick = (omega arith, tt)
forms_small verb.Turn = tt
forms_small verb.Run = tt
forms_small verb.Mark = (tt, (tt, (tt, tt)))

-- the event of a verb and what was read behind it
rebuilt : EventVerb → List Field → Event
rebuilt verb.Accept (Numbered a ∷ Named b ∷ From c ∷ Numbered d ∷ []) = event.Accept a b (record { ip = c; port = d })
rebuilt verb.Client (Numbered a ∷ Bytes b ∷ []) = event.FromClient a b
rebuilt verb.ClientEnd (Numbered a ∷ []) = event.ClientEnd a
rebuilt verb.ClientReset (Numbered a ∷ []) = event.ClientReset a
rebuilt verb.Connected (Numbered a ∷ []) = event.Connected a
rebuilt verb.Refused (Numbered a ∷ []) = event.Refused a
rebuilt verb.Server (Numbered a ∷ Bytes b ∷ []) = event.FromServer a b
rebuilt verb.ServerEnd (Numbered a ∷ []) = event.ServerEnd a
rebuilt verb.ServerReset (Numbered a ∷ []) = event.ServerReset a
rebuilt verb.ClientTook (Numbered a ∷ Numbered b ∷ []) = event.ClientTook a b
rebuilt verb.ServerTook (Numbered a ∷ Numbered b ∷ []) = event.ServerTook a b
rebuilt verb.Tick (Numbered a ∷ []) = event.Tick a
rebuilt verb.Turn [] = event.Turn
rebuilt verb.Mark (Named a ∷ At b ∷ Up c ∷ []) = event.Mark a b c
rebuilt verb read = event.Run

is_rebuilt : (e : Event) → rebuilt (verb_of e) (fields e) ≡ e
unfolding rebuilt
is_rebuilt (event.Accept a b c) = refl
is_rebuilt (event.FromClient a b) = refl
is_rebuilt (event.ClientEnd a) = refl
is_rebuilt (event.ClientReset a) = refl
is_rebuilt (event.Connected a) = refl
is_rebuilt (event.Refused a) = refl
is_rebuilt (event.FromServer a b) = refl
is_rebuilt (event.ServerEnd a) = refl
is_rebuilt (event.ServerReset a) = refl
is_rebuilt (event.ClientTook a b) = refl
is_rebuilt (event.ServerTook a b) = refl
is_rebuilt (event.Tick a) = refl
is_rebuilt event.Turn = refl
is_rebuilt (event.Mark a b c) = refl
is_rebuilt event.Run = refl

pub one_event : OneEvent
one_event line e f p q =
    let a = p.spelled in
    let b = q.spelled in
    let same = sym a.words_are ∙ b.words_are in
    let v : verb_of e ≡ verb_of f = same_verb (verb_of e) (verb_of f) (cc same) in
    let r : b.rest ≡ a.rest = cc same in
    let there : ReadAs (forms (verb_of e)) a.rest (fields f) = subst (λ w. ReadAs (forms w) a.rest (fields f)) (sym v) (subst (λ ws. ReadAs (forms (verb_of f)) ws (fields f)) r b.read) in
    let read = read_one (forms (verb_of e)) (forms_small (verb_of e)) a.rest (fields e) (fields f) a.read there in
    sym (is_rebuilt e) ∙ ap (λ w. rebuilt w (fields e)) v ∙ ap (rebuilt (verb_of f)) read ∙ is_rebuilt f
