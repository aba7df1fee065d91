-- The words of notes hold neither blanks nor LF: no byte of them is below `!`.
use Rattle.std.proofs.Common.{◌≡◌, ℕ, ◌+◌, ◌/◌, ◌%◌, ◌^◌, ◌<◌, ◌≤◌, Bool, true, false, not, ◌&&◌, cond, nat_lt, flat_map, List, [], ◌∷◌, refl, arith, ne_eqb, ltb-false}
use Rattle.std.specs.Prelude.{codes}
use Rattle.std.specs.Char.{digit_char}
use Rattle.std.specs.Fmt.{decimal}
use Rattle.std.proofs.lemmas.Bool.{and_parts}
use Rattle.px_bytes.specs.Address.{addr_text}
use Rattle.px_bytes.specs.Hexadecimal.{hex_pair, hex_text}
use Rattle.px_bytes.specs.declared.addr.Addr.{Addr}
use Rattle.px_bytes.specs.declared.addr.Side.{Side}
use Rattle.px_bytes.specs.declared.addr.Side.TheVariants.{Client, Server}
use Rattle.px_bytes.specs.declared.fault.Reply.{Reply}
use Rattle.px_bytes.specs.declared.fault.Reply.TheVariants as reply
use Rattle.core_events.specs.declared.note.Cause.{Cause}
use Rattle.core_events.specs.declared.note.Cause.TheVariants as cause
use Rattle.core_events.specs.declared.note.CutReason.{CutReason}
use Rattle.core_events.specs.declared.note.CutReason.TheVariants.{ClientReset, ServerReset, Idle}
use Rattle.journal_text.proofs.Addresses.{Without, NoDigit, decimal_without, addr_without}
use Rattle.journal_text.specs.Notes.{cut_text, fault_number, http_number, kept_text, side_text}
use Rattle.journal_value.specs.Words.{IsDest, cause_words, is_space, reply_words, verb_text}
use Rattle.journal_value.specs.Journal.{is_lf}
use Rattle.journal_value.specs.declared.note_verb.NoteVerb.{NoteVerb}
use Rattle.journal_value.specs.declared.note_verb.NoteVerb.TheVariants as verb
use Rattle.journal_value.proofs.EachWord.{small_http, small_kind}

abbrev pub is_low : ℕ → Bool
is_low byte = nat_lt byte 33

abbrev pub Clean : List ℕ → Type 0
Clean word = Without is_low word

high : (x : ℕ) → 33 ≤ x → is_low x ≡ false
high x over = grind arith

pub above : (x : ℕ) → is_low x ≡ false → 33 ≤ x
above x e = ltb-false x 33 e

abbrev all_high : List ℕ → Bool
all_high [] = true
all_high (x ∷ xs) = not (is_low x) && all_high xs

not_true : (b : Bool) → not b ≡ true → b ≡ false
not_true true e = cc
not_true false e = refl

pub plain : (xs : List ℕ) → all_high xs ≡ true → Clean xs
plain [] e = tt
plain (x ∷ xs) e =
    let parts = and_parts (not (is_low x)) (all_high xs) e in
    (not_true (is_low x) parts.0, plain xs parts.1)

no_digit : NoDigit is_low
no_digit d low top = high d (omega arith)

pub decimal_clean : (n : ℕ) → n < 2 ^ 64 → Clean (decimal n)
decimal_clean n fits = decimal_without is_low no_digit n fits

pub addr_clean : (to : Addr) → IsDest to → Clean (addr_text to)
addr_clean to is = addr_without is_low no_digit refl refl to (record { ip = is.0; port = is.1 })

cond_above : (b : Bool) (x y : ℕ) → 33 ≤ x → 33 ≤ y → 33 ≤ cond b x y
cond_above true x y h k = h
cond_above false x y h k = k

pub digit_clean : (n : ℕ) → is_low (digit_char n) ≡ false
digit_clean n = high (digit_char n) (cond_above (nat_lt n 10) (48 + n) (87 + n) (omega arith) (omega arith))

pairs_clean : (bytes : List ℕ) → Clean (flat_map hex_pair bytes)
pairs_clean [] = tt
pairs_clean (byte ∷ bytes) = (digit_clean (byte / 16), (digit_clean (byte % 16), pairs_clean bytes))

pub hex_clean : (bytes : List ℕ) → Clean (hex_text bytes)
hex_clean [] = plain (codes "-") refl
hex_clean (byte ∷ bytes) = pairs_clean (byte ∷ bytes)

pub verb_clean : (v : NoteVerb) → Clean (verb_text v)
verb_clean verb.Connect = plain (codes "connect") refl
verb_clean verb.Sleep = plain (codes "sleep") refl
verb_clean verb.History = plain (codes "history") refl
verb_clean verb.Log = plain (codes "log") refl
verb_clean verb.Pass = plain (codes "pass") refl
verb_clean verb.Fired = plain (codes "fired") refl
verb_clean verb.Reuse = plain (codes "reuse") refl
verb_clean verb.Finish = plain (codes "finish") refl
verb_clean verb.HalfClose = plain (codes "half-close") refl
verb_clean verb.CloseServer = plain (codes "close-server") refl
verb_clean verb.CloseClient = plain (codes "close-client") refl
verb_clean verb.Ended = plain (codes "ended") refl

pub side_clean : (side : Side) → Clean (side_text side)
side_clean Client = plain (codes "client") refl
side_clean Server = plain (codes "server") refl

pub kept_clean : (kept : Bool) → Clean (kept_text kept)
kept_clean true = plain (codes "kept") refl
kept_clean false = plain (codes "gone") refl

cut_clean : (reason : CutReason) → Clean (cut_text reason)
cut_clean ClientReset = plain (codes "client-reset") refl
cut_clean ServerReset = plain (codes "server-reset") refl
cut_clean Idle = plain (codes "idle") refl

abbrev pub AllLow : List (List ℕ) → Type 0
AllLow [] = Unit {0}
AllLow (word ∷ words) = Clean word × AllLow words

pub cause_clean : (c : Cause) → AllLow (cause_words c)
cause_clean cause.Closed = (plain (codes "closed") refl, tt)
cause_clean (cause.Tcl kind) = (plain (codes "tcl") refl, (decimal_clean (fault_number kind) (small_kind kind), tt))
cause_clean (cause.Http fault) = (plain (codes "http") refl, (decimal_clean (http_number fault) (small_http fault), tt))
cause_clean cause.Unselected = (plain (codes "unselected") refl, tt)
cause_clean cause.Rejected = (plain (codes "rejected") refl, tt)
cause_clean (cause.Cut reason) = (plain (codes "cut") refl, (cut_clean reason, tt))
cause_clean cause.Memory = (plain (codes "memory") refl, tt)

pub reply_clean : (r : Reply) → AllLow (reply_words r)
reply_clean (reply.Ok v) = (plain (codes "ok") refl, (hex_clean v, tt))
reply_clean (reply.Fault f) = (plain (codes "fault") refl, (decimal_clean (fault_number f.kind) (small_kind f.kind), (hex_clean f.text, tt)))

-- so they hold no blank, and no LF
pub no_space : (word : List ℕ) → Clean word → Without is_space word
no_space [] h = tt
no_space (x ∷ xs) h = (let a = above x h.0 in ne_eqb x 32 (λ e. omega arith), no_space xs h.1)

pub no_lf : (word : List ℕ) → Clean word → Without is_lf word
no_lf [] h = tt
no_lf (x ∷ xs) h = (let a = above x h.0 in ne_eqb x 10 (λ e. omega arith), no_lf xs h.1)
