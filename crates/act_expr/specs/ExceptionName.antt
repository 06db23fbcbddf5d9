-- The names of exceptions, as texts.
use Rattle.std.specs.Prelude.{ℕ, List, length, Bool, ◌&&◌, ◌||◌, ◌==◌, not, nat_lt, nat_le, nat_eq, codes, Option, Some, None, if◌then◌else◌}
use Rattle.std.specs.Char.{is_ascii_alphanumeric}
use Rattle.std.specs.List.{list_all}
use Rattle.std.specs.Cmp.Lexicographic.{pointwise}

-- an ASCII letter or digit, `.`, `_` or `$`
abbrev pub is_name_byte : ℕ → Bool
is_name_byte b = is_ascii_alphanumeric b || b == 46 || b == 95 || b == 36

-- the exception that wraps others is no exception name
abbrev pub completion_exception : List ℕ
completion_exception = codes "java.util.concurrent.CompletionException"

-- 1 to 128 such characters, and not that exception
abbrev pub is_exception_name : List ℕ → Bool
is_exception_name text =
    nat_lt 0 (length text) && nat_le (length text) 128 && list_all is_name_byte text
    && not (pointwise nat_eq text completion_exception)

-- the exception name that a text is, if it is one
abbrev pub exception_name : List ℕ → Option (List ℕ)
exception_name text = if is_exception_name text then Some text else None

-- the exceptions that an expression throws by itself
abbrev pub null_pointer : List ℕ
null_pointer = codes "java.lang.NullPointerException"

abbrev pub arithmetic : List ℕ
arithmetic = codes "java.lang.ArithmeticException"
