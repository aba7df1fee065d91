-- The code's answer as the definitions' answer.
use Rattle.std.specs.Prelude.{ℕ, List, ◌++◌, length, codes}
use Rattle.httparse.specs.Grammar.{print_version}
use Rattle.http_heads.specs.Fields.{Pair}
use Rattle.http_heads.specs.Lines.{minor_of}
use Rattle.http_heads.specs.Written.{code_digits}
use Rattle.http_heads.specs.declared.line.Version.{Version}
use Rattle.http_answers.specs.Answers.{Answer, connection_field, gives_close, is_bodiless}
use Rattle.http_answers.specs.Answers.{length_field, reason_of, server_field}
use Rattle.http_answers.specs.Options.{pairs_of}
use Rattle.http_answers.specs.declared.answer.Answer.{Answer as Drafted}

abbrev pub seen : Drafted → Answer
seen a = record {
  version = a.version;
  code = a.code;
  given = pairs_of a.given.now;
  server = a.server;
  closes = a.closes;
  content = a.content.now;
}

-- an answer's status line
abbrev pub status_line : Version → ℕ → List ℕ
status_line version code =
    print_version (minor_of version) ++ codes " " ++ code_digits code ++ codes " "
    ++ reason_of code ++ codes "\r\n"

-- the fields that it has of its own
abbrev pub own_fields : Drafted → List Pair
own_fields a =
    server_field a.server ++ connection_field (gives_close (pairs_of a.given.now)) a.closes
    ++ length_field (is_bodiless a.code) (length a.content.now)
