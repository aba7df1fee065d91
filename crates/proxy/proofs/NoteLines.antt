-- The line of a note is one line, and is skipped: no text of it holds LF.
use Rattle.std.proofs.Common.{◌≡◌, inr, refl, ℕ, zero, suc, ◌+◌, ◌/◌, ◌%◌, ◌^◌, ◌<◌, ◌≤◌, List, [], ◌∷◌, ◌++◌, Bool, true, false, not, ◌&&◌, ◌||◌, cond, nat_lt, nat_eq, if◌then◌else◌, flat_map, arith, ne_eqb, ltb-false}
use Rattle.std.specs.Prelude.{codes, ◌==◌}
use Rattle.std.specs.Char.{digit_char}
use Rattle.std.specs.Fmt.{decimal, digits, digits_onto, digit_glyph}
use Rattle.std.proofs.lemmas.Bool.{and_parts, or_parts}
use Rattle.px_bytes.specs.Address.{ip_text, addr_text}
use Rattle.px_bytes.specs.Escapes.{needs_escape, digits_escape, escaped_byte, escaped}
use Rattle.px_bytes.specs.Hexadecimal.{hex_pair, hex_text}
use Rattle.px_bytes.specs.declared.addr.Addr.{Addr}
use Rattle.px_bytes.specs.declared.addr.Side.{Side}
use Rattle.px_bytes.specs.declared.addr.Side.TheVariants.{Client, Server}
use Rattle.px_bytes.specs.declared.fault.Reply.{Reply}
use Rattle.px_bytes.specs.declared.fault.Reply.TheVariants as reply
use Rattle.tcl_lists.specs.Write.{joined}
use Rattle.core_events.specs.declared.note.Cause.{Cause}
use Rattle.core_events.specs.declared.note.Cause.TheVariants.{Closed, Tcl, Http, Unselected, Rejected, Cut, Memory}
use Rattle.core_events.specs.declared.note.CutReason.{CutReason}
use Rattle.core_events.specs.declared.note.CutReason.TheVariants.{ClientReset, ServerReset, Idle}
use Rattle.core_events.specs.declared.note.Note.{Note}
use Rattle.core_events.specs.declared.note.Note.TheVariants as note
use Rattle.journal_text.specs.Line.{IsSkipped}
use Rattle.journal_text.specs.Notes.{cause_text, cut_text, fault_number, http_number, kept_text, note_line, reply_text, side_text}
use Rattle.proxy.specs.Lines.{IsLine}

pub both_lines : (xs ys : List ℕ) → IsLine xs → IsLine ys → IsLine (xs ++ ys)
both_lines [] ys h k = k
both_lines (x ∷ xs) ys h k = (h.0, both_lines xs ys h.1 k)

-- ---- texts that are written out

abbrev has_no_lf : List ℕ → Bool
has_no_lf [] = true
has_no_lf (x ∷ xs) = not (nat_eq x 10) && has_no_lf xs

not_true : (b : Bool) → not b ≡ true → b ≡ false
not_true true e = cc
not_true false e = refl

plain : (xs : List ℕ) → has_no_lf xs ≡ true → IsLine xs
plain [] e = tt
plain (x ∷ xs) e =
    let parts = and_parts (not (nat_eq x 10)) (has_no_lf xs) e in
    (not_true (nat_eq x 10) parts.0, plain xs parts.1)

-- ---- digits

above : (x : ℕ) → 10 < x → nat_eq x 10 ≡ false
above x over = ne_eqb x 10 (λ e. omega arith)

cond_above : (b : Bool) (x y : ℕ) → 10 < x → 10 < y → 10 < cond b x y
cond_above true x y h k = h
cond_above false x y h k = k

glyph_free : (d : ℕ) → nat_eq (digit_glyph false d) 10 ≡ false
glyph_free d = above (digit_glyph false d) (cond_above (nat_lt d 10) (48 + d) (87 + d) (omega arith) (omega arith))

digits_line : (k n : ℕ) (after : List ℕ) → IsLine after → IsLine (digits_onto k 10 false n after)
digits_line zero n after h = h
digits_line (suc k) n after h = by_last (n / 10 == 0) (digits_line k (n / 10) more (glyph_free (n % 10), h))
  where
    more : List ℕ
    more = digit_glyph false (n % 10) ∷ after

    by_last : (b : Bool) → IsLine (digits_onto k 10 false (n / 10) more) → IsLine (if b then more else digits_onto k 10 false (n / 10) more)
    by_last true rest = (glyph_free (n % 10), h)
    by_last false rest = rest

decimal_line : (n : ℕ) → IsLine (decimal n)
unfolding digits
decimal_line n = digits_line 64 n [] tt

digit_free : (d : ℕ) → nat_eq (digit_char d) 10 ≡ false
digit_free d = above (digit_char d) (cond_above (nat_lt d 10) (48 + d) (87 + d) (omega arith) (omega arith))

pair_line : (byte : ℕ) → IsLine (hex_pair byte)
pair_line byte = (digit_free (byte / 16), (digit_free (byte % 16), tt))

pairs_line : (bytes : List ℕ) → IsLine (flat_map hex_pair bytes)
pairs_line [] = tt
pairs_line (byte ∷ bytes) = both_lines (hex_pair byte) (flat_map hex_pair bytes) (pair_line byte) (pairs_line bytes)

hex_line : (bytes : List ℕ) → IsLine (hex_text bytes)
hex_line [] = plain (codes "-") refl
hex_line (byte ∷ bytes) = pairs_line (byte ∷ bytes)

-- ---- addresses and escapes

dot_behind : (text : List ℕ) (n : ℕ) → IsLine text → IsLine (text ++ codes "." ++ decimal n)
dot_behind text n h = both_lines (text ++ codes ".") (decimal n) (both_lines text (codes ".") h (plain (codes ".") refl)) (decimal_line n)

dotted_line : (a b c d : ℕ) → IsLine (decimal a ++ codes "." ++ decimal b ++ codes "." ++ decimal c ++ codes "." ++ decimal d)
dotted_line a b c d =
    let two = dot_behind (decimal a) b (decimal_line a) in
    let three = dot_behind (decimal a ++ codes "." ++ decimal b) c two in
    dot_behind (decimal a ++ codes "." ++ decimal b ++ codes "." ++ decimal c) d three

addr_line : (addr : Addr) → IsLine (addr_text addr)
addr_line addr =
    let ip : IsLine (ip_text addr.ip) = dotted_line (addr.ip / 2 ^ 24) (addr.ip / 2 ^ 16 % 256) (addr.ip / 2 ^ 8 % 256) (addr.ip % 256) in
    both_lines (ip_text addr.ip ++ codes ":") (decimal addr.port) (both_lines (ip_text addr.ip) (codes ":") ip (plain (codes ":") refl)) (decimal_line addr.port)

unescaped : (byte : ℕ) → needs_escape byte ≡ false → nat_eq byte 10 ≡ false
unescaped byte e =
    let first = (or_parts (nat_lt byte 0x20 || nat_lt 0x7e byte) (byte == 0x5c) e).0 in
    let small = (or_parts (nat_lt byte 0x20) (nat_lt 0x7e byte) first).0 in
    let over : 32 ≤ byte = ltb-false byte 32 small in
    above byte (omega (arith, over))

byte_line : (byte : ℕ) → IsLine (escaped_byte byte)
byte_line byte = by_need (needs_escape byte) refl
  where
    by_need : (b : Bool) → needs_escape byte ≡ b → IsLine (if b then digits_escape byte else byte ∷ [])
    by_need true e = both_lines (codes "\\x") (hex_pair byte) (plain (codes "\\x") refl) (pair_line byte)
    by_need false e = (unescaped byte e, tt)

escaped_line : (bytes : List ℕ) → IsLine (escaped bytes)
escaped_line [] = tt
escaped_line (byte ∷ bytes) = both_lines (escaped_byte byte) (escaped bytes) (byte_line byte) (escaped_line bytes)

-- ---- the words of notes

side_line : (side : Side) → IsLine (side_text side)
side_line Client = plain (codes "client") refl
side_line Server = plain (codes "server") refl

kept_line : (kept : Bool) → IsLine (kept_text kept)
kept_line true = plain (codes "kept") refl
kept_line false = plain (codes "gone") refl

cut_line : (reason : CutReason) → IsLine (cut_text reason)
cut_line ClientReset = plain (codes "client-reset") refl
cut_line ServerReset = plain (codes "server-reset") refl
cut_line Idle = plain (codes "idle") refl

cause_line : (cause : Cause) → IsLine (cause_text cause)
cause_line Closed = plain (codes "closed") refl
cause_line (Tcl kind) = both_lines (codes "tcl ") (decimal (fault_number kind)) (plain (codes "tcl ") refl) (decimal_line (fault_number kind))
cause_line (Http fault) = both_lines (codes "http ") (decimal (http_number fault)) (plain (codes "http ") refl) (decimal_line (http_number fault))
cause_line Unselected = plain (codes "unselected") refl
cause_line Rejected = plain (codes "rejected") refl
cause_line (Cut reason) = both_lines (codes "cut ") (cut_text reason) (plain (codes "cut ") refl) (cut_line reason)
cause_line Memory = plain (codes "memory") refl

-- a further word
word_behind : (line word : List ℕ) → IsLine line → IsLine word → IsLine (line ++ codes " " ++ word)
word_behind line word h k = both_lines (line ++ codes " ") word (both_lines line (codes " ") h (plain (codes " ") refl)) k

reply_line : (r : Reply) → IsLine (reply_text r)
reply_line (reply.Ok v) = both_lines (codes "ok ") (hex_text v) (plain (codes "ok ") refl) (hex_line v)
reply_line (reply.Fault f) = word_behind (codes "fault " ++ decimal (fault_number f.kind)) (hex_text f.text) (both_lines (codes "fault ") (decimal (fault_number f.kind)) (plain (codes "fault ") refl) (decimal_line (fault_number f.kind))) (hex_line f.text)

-- the first word, and the connection's number
named : (word : List ℕ) (conn : ℕ) → has_no_lf word ≡ true → IsLine (word ++ decimal conn)
named word conn e = both_lines word (decimal conn) (plain word e) (decimal_line conn)

-- a call, at its moment
asked_line : (conn moment : ℕ) (call : List (List ℕ)) → IsLine (codes "> history " ++ decimal conn ++ codes " " ++ decimal moment ++ codes " " ++ hex_text (joined call))
asked_line conn moment call =
    let at = word_behind (codes "> history " ++ decimal conn) (decimal moment) (named (codes "> history ") conn refl) (decimal_line moment) in
    word_behind (codes "> history " ++ decimal conn ++ codes " " ++ decimal moment) (hex_text (joined call)) at (hex_line (joined call))

-- ---- the lines of notes

pub record SkippedLine (text : List ℕ) : Type 0 where
  pub line : List ℕ
  pub text_is : text ≡ line ++ 10 ∷ []
  pub is_line : IsLine line
  pub skipped : IsSkipped line

pub note_is_skipped : (n : Note) → SkippedLine (note_line n)
note_is_skipped (note.Connect conn to) = record {
  line = codes "> connect " ++ decimal conn ++ codes " " ++ addr_text to;
  text_is = refl;
  is_line = word_behind (codes "> connect " ++ decimal conn) (addr_text to) (named (codes "> connect ") conn refl) (addr_line to);
  skipped = inr refl;
}
note_is_skipped (note.Pass conn side n) = record {
  line = codes "> pass " ++ decimal conn ++ codes " " ++ side_text side ++ codes " " ++ decimal n;
  text_is = refl;
  is_line = word_behind (codes "> pass " ++ decimal conn ++ codes " " ++ side_text side) (decimal n) (word_behind (codes "> pass " ++ decimal conn) (side_text side) (named (codes "> pass ") conn refl) (side_line side)) (decimal_line n);
  skipped = inr refl;
}
note_is_skipped (note.Fired conn side) = record {
  line = codes "> fired " ++ decimal conn ++ codes " " ++ side_text side;
  text_is = refl;
  is_line = word_behind (codes "> fired " ++ decimal conn) (side_text side) (named (codes "> fired ") conn refl) (side_line side);
  skipped = inr refl;
}
note_is_skipped (note.Reuse conn kept) = record {
  line = codes "> reuse " ++ decimal conn ++ codes " " ++ kept_text kept;
  text_is = refl;
  is_line = word_behind (codes "> reuse " ++ decimal conn) (kept_text kept) (named (codes "> reuse ") conn refl) (kept_line kept);
  skipped = inr refl;
}
note_is_skipped (note.Log conn text) = record {
  line = codes "> log " ++ decimal conn ++ codes " " ++ escaped text;
  text_is = refl;
  is_line = word_behind (codes "> log " ++ decimal conn) (escaped text) (named (codes "> log ") conn refl) (escaped_line text);
  skipped = inr refl;
}
note_is_skipped (note.Finish conn cause) = record {
  line = codes "> finish " ++ decimal conn ++ codes " " ++ cause_text cause;
  text_is = refl;
  is_line = word_behind (codes "> finish " ++ decimal conn) (cause_text cause) (named (codes "> finish ") conn refl) (cause_line cause);
  skipped = inr refl;
}
note_is_skipped (note.Sleep conn until) = record {
  line = codes "> sleep " ++ decimal conn ++ codes " " ++ decimal until;
  text_is = refl;
  is_line = word_behind (codes "> sleep " ++ decimal conn) (decimal until) (named (codes "> sleep ") conn refl) (decimal_line until);
  skipped = inr refl;
}
note_is_skipped (note.History conn moment call answer) = record {
  line = codes "> history " ++ decimal conn ++ codes " " ++ decimal moment ++ codes " " ++ hex_text (joined call) ++ codes " " ++ reply_text answer;
  text_is = refl;
  is_line = word_behind (codes "> history " ++ decimal conn ++ codes " " ++ decimal moment ++ codes " " ++ hex_text (joined call)) (reply_text answer) (asked_line conn moment call) (reply_line answer);
  skipped = inr refl;
}
note_is_skipped (note.HalfClose conn side) = record {
  line = codes "> half-close " ++ decimal conn ++ codes " " ++ side_text side;
  text_is = refl;
  is_line = word_behind (codes "> half-close " ++ decimal conn) (side_text side) (named (codes "> half-close ") conn refl) (side_line side);
  skipped = inr refl;
}
note_is_skipped (note.CloseServer conn) = record {
  line = codes "> close-server " ++ decimal conn;
  text_is = refl;
  is_line = named (codes "> close-server ") conn refl;
  skipped = inr refl;
}
note_is_skipped (note.CloseClient conn) = record {
  line = codes "> close-client " ++ decimal conn;
  text_is = refl;
  is_line = named (codes "> close-client ") conn refl;
  skipped = inr refl;
}
note_is_skipped (note.Ended conn dropped) = record {
  line = codes "> ended " ++ decimal conn ++ codes " " ++ decimal dropped;
  text_is = refl;
  is_line = word_behind (codes "> ended " ++ decimal conn) (decimal dropped) (named (codes "> ended ") conn refl) (decimal_line dropped);
  skipped = inr refl;
}
