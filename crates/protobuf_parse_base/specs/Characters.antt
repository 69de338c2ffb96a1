-- Characters by name: their ASCII codes.
use Rattle.std.specs.Prelude.{ℕ}

-- U+0000
abbrev pub nul : ℕ
nul = 0

-- U+0007
abbrev pub bell : ℕ
bell = 7

-- U+0008
abbrev pub backspace : ℕ
backspace = 8

-- U+0009
abbrev pub tab : ℕ
tab = 9

-- U+000A
abbrev pub newline : ℕ
newline = 10

-- U+000B
abbrev pub vertical_tab : ℕ
vertical_tab = 11

-- U+000C
abbrev pub form_feed : ℕ
form_feed = 12

-- U+000D
abbrev pub carriage_return : ℕ
carriage_return = 13

-- U+0020
abbrev pub space : ℕ
space = 32

-- `!`
abbrev pub exclamation : ℕ
exclamation = 33

-- `"`
abbrev pub quote : ℕ
quote = 34

-- `'`
abbrev pub apostrophe : ℕ
apostrophe = 39

-- `(`
abbrev pub open_paren : ℕ
open_paren = 40

-- `)`
abbrev pub close_paren : ℕ
close_paren = 41

-- `*`
abbrev pub star : ℕ
star = 42

-- `+`
abbrev pub plus : ℕ
plus = 43

-- `,`
abbrev pub comma : ℕ
comma = 44

-- `-`
abbrev pub minus : ℕ
minus = 45

-- `.`
abbrev pub dot : ℕ
dot = 46

-- `/`
abbrev pub slash : ℕ
slash = 47

-- `0`
abbrev pub zero : ℕ
zero = 48

-- `7`
abbrev pub seven : ℕ
seven = 55

-- `:`
abbrev pub colon : ℕ
colon = 58

-- `;`
abbrev pub semicolon : ℕ
semicolon = 59

-- `<`
abbrev pub less : ℕ
less = 60

-- `=`
abbrev pub equals : ℕ
equals = 61

-- `>`
abbrev pub greater : ℕ
greater = 62

-- `?`
abbrev pub question : ℕ
question = 63

-- `A`
abbrev pub capital_a : ℕ
capital_a = 65

-- `E`
abbrev pub capital_e : ℕ
capital_e = 69

-- `U`
abbrev pub capital_u : ℕ
capital_u = 85

-- `X`
abbrev pub capital_x : ℕ
capital_x = 88

-- `Z`
abbrev pub capital_z : ℕ
capital_z = 90

-- `[`
abbrev pub open_bracket : ℕ
open_bracket = 91

-- `\`
abbrev pub backslash : ℕ
backslash = 92

-- `]`
abbrev pub close_bracket : ℕ
close_bracket = 93

-- `_`
abbrev pub underscore : ℕ
underscore = 95

-- `a`
abbrev pub small_a : ℕ
small_a = 97

-- `b`
abbrev pub small_b : ℕ
small_b = 98

-- `e`
abbrev pub small_e : ℕ
small_e = 101

-- `f`
abbrev pub small_f : ℕ
small_f = 102

-- `n`
abbrev pub small_n : ℕ
small_n = 110

-- `r`
abbrev pub small_r : ℕ
small_r = 114

-- `t`
abbrev pub small_t : ℕ
small_t = 116

-- `u`
abbrev pub small_u : ℕ
small_u = 117

-- `v`
abbrev pub small_v : ℕ
small_v = 118

-- `x`
abbrev pub small_x : ℕ
small_x = 120

-- `{`
abbrev pub open_brace : ℕ
open_brace = 123

-- `}`
abbrev pub close_brace : ℕ
close_brace = 125

-- `~`
abbrev pub tilde : ℕ
tilde = 126
