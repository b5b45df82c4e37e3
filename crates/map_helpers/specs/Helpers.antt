-- Statement: the helpers that code may call: by which number, with which arguments, and what each reads, writes and
-- answers. How a helper is called is RFC 9669's, which helpers there are is this host's.
use Rattle.std.specs.Prelude.{ℕ, ◌-◌, ◌^◌, if◌then◌else◌, List, [], ◌∷◌, Option, Some, None, ℤ, pos}
use Rattle.std.specs.Ordering.{int_eq}
use Rattle.map_helpers.specs.declared.helper.Access.{Access}
use Rattle.map_helpers.specs.declared.helper.Extent.{Extent}
use Rattle.map_helpers.specs.declared.helper.Extent.TheVariants.{Fixed, Second}
use Rattle.map_helpers.specs.declared.helper.Helper.{Helper}
use Rattle.map_helpers.specs.declared.helper.Helper.TheVariants.{Get, Put, Del, Len, Next, Emit, Caller}

-- The helper of a number. (RFC 9669, 4.3.1: by static ID)
abbrev pub helper_of : ℤ → Option Helper
helper_of number =
    if int_eq number (pos 1) then Some Get
    else if int_eq number (pos 2) then Some Put
    else if int_eq number (pos 3) then Some Del
    else if int_eq number (pos 4) then Some Len
    else if int_eq number (pos 5) then Some Next
    else if int_eq number (pos 6) then Some Emit
    else if int_eq number (pos 7) then Some Caller
    else None

-- The registers that a helper takes its arguments from. (RFC 9669, 4.3.1)
abbrev pub arguments_of : Helper → List ℕ
arguments_of Get = 1 ∷ 2 ∷ []
arguments_of Put = 1 ∷ 2 ∷ []
arguments_of Del = 1 ∷ []
arguments_of Len = []
arguments_of Next = 1 ∷ 2 ∷ []
arguments_of Emit = 1 ∷ 2 ∷ []
arguments_of Caller = []

-- The key at r1: 16 bytes.
abbrev pub key_at_r1 : Access
key_at_r1 = record { register = 1; size = Fixed 16 }

-- The key at r2.
abbrev pub key_at_r2 : Access
key_at_r2 = record { register = 2; size = Fixed 16 }

-- The value at r2: 32 bytes.
abbrev pub value_at_r2 : Access
value_at_r2 = record { register = 2; size = Fixed 32 }

-- As many bytes at r1 as r2 says.
abbrev pub bytes_at_r1 : Access
bytes_at_r1 = record { register = 1; size = Second }

-- How many bytes an access has for certain: none where that is left to r2.
abbrev pub fixed_size : Extent → ℕ
fixed_size (Fixed n) = n
fixed_size Second = 0

-- What a helper reads, before it writes.
abbrev pub reads : Helper → List Access
reads Get = key_at_r1 ∷ []
reads Put = key_at_r1 ∷ value_at_r2 ∷ []
reads Del = key_at_r1 ∷ []
reads Len = []
reads Next = key_at_r1 ∷ []
reads Emit = bytes_at_r1 ∷ []
reads Caller = []

-- What a helper writes.
abbrev pub writes : Helper → List Access
writes Get = value_at_r2 ∷ []
writes Put = []
writes Del = []
writes Len = []
writes Next = key_at_r2 ∷ []
writes Emit = []
writes Caller = []

-- The greatest number that a helper answers; the least is 0.
abbrev pub max_answer : Helper → ℕ
max_answer Get = 1
max_answer Put = 1
max_answer Del = 1
max_answer Len = 4096
max_answer Next = 1
max_answer Emit = 1
max_answer Caller = 2 ^ 32 - 1
