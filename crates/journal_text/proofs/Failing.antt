-- Words that stand for nothing, and what then fails first.
use Rattle.std.proofs.Common.{◌≡◌, ℕ, ◌^◌, ◌<◌, ◌≤◌, List, [], ◌∷◌, None, refl, map, Bor}
use Rattle.std.specs.Fmt.{decimal}
use Rattle.std.specs.List.{list_all}
use Rattle.std.proofs.lemmas.List.Folds.{list_all-map}
use Rattle.journal_text.specs.Line.{is_word}
use Rattle.px_bytes.specs.Address.{ip_text}
use Rattle.px_bytes.specs.HexRead.{hex_bytes}
use Rattle.journal_text.specs.Form.{Number, Hex, Name, Ip, conn_form, port_form}
use Rattle.journal_text.specs.Form.{Field, Numbered, Bytes, Named, From, At, Up}
use Rattle.journal_text.specs.Reading.{Reads, Fails}
use Rattle.journal_text.specs.declared.line_kind.LineKind.TheVariants.{BadNumber, BadHex}

-- the word is no number so small
abbrev pub NoNumber : ℕ → List ℕ → Type 0
NoNumber most word = (n : ℕ) → n ≤ most → word ≡ decimal n → ⊥

not_number : (most : ℕ) (word : List ℕ) → NoNumber most word → (field : Field) → Reads (Number most) word field → ⊥
not_number most word none (Numbered n) r = none n r.1 r.0
not_number most word none (Bytes b) r = r
not_number most word none (Named t) r = r
not_number most word none (From ip) r = r
not_number most word none (At a) r = r
not_number most word none (Up u) r = r

not_hex : (word : List ℕ) → hex_bytes word ≡ None → (field : Field) → Reads Hex word field → ⊥
not_hex word none (Numbered n) r = r
not_hex word none (Bytes b) r = cc (none, r)
not_hex word none (Named t) r = r
not_hex word none (From ip) r = r
not_hex word none (At a) r = r
not_hex word none (Up u) r = r

pub bad_hex : (conn bytes : List ℕ) (n : ℕ) → conn ≡ decimal n → n ≤ 4294967295 → hex_bytes bytes ≡ None → Fails (conn_form ∷ Hex ∷ []) (conn ∷ bytes ∷ []) BadHex
bad_hex conn bytes n e small none = (((Numbered n, (e, small)), (tt, tt)), λ all. not_hex bytes none all.1.0.0 all.1.0.1)

pub bad_conn : (conn vs ip port : List ℕ) (x : ℕ) → ip ≡ ip_text x → x < 2 ^ 32 → NoNumber 4294967295 conn → Fails (conn_form ∷ Name ∷ Ip ∷ port_form ∷ []) (conn ∷ vs ∷ ip ∷ port ∷ []) BadNumber
bad_conn conn vs ip port x e small none = ((tt, ((Named vs, refl), ((From x, (e, small)), (tt, tt)))), λ all. not_number 4294967295 conn none all.0.0 all.0.1)

pub bad_port : (conn vs ip port : List ℕ) (x : ℕ) → ip ≡ ip_text x → x < 2 ^ 32 → NoNumber 65535 port → Fails (conn_form ∷ Name ∷ Ip ∷ port_form ∷ []) (conn ∷ vs ∷ ip ∷ port ∷ []) BadNumber
bad_port conn vs ip port x e small none = ((tt, ((Named vs, refl), ((From x, (e, small)), (tt, tt)))), λ all. not_number 65535 port none all.1.1.1.0.0 all.1.1.1.0.1)

-- as the words are seen
pub all_now : (words : List (Bor (List ℕ))) → list_all is_word (map (λ w. w.now) words) ≡ list_all (λ w. is_word w.now) words
all_now words = list_all-map is_word (λ w. w.now) words
