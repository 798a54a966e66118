-- Fields that count pages or tell the time (ECMA-376 Part 1, 17.16.5): a word processor makes their results anew whenever it
-- stores the document, so these results are nothing that a reader decides on, and they are left out.
use Rattle.std.specs.Prelude.{ℕ, ◌+◌, ◌-◌, ◌==◌, ltb, List, [], ◌∷◌, ◌++◌, length, Bool, false, true, ◌&&◌, ◌||◌, not, codes, if◌then◌else◌}
use Rattle.std.specs.Str.{str_eq_ignore_ascii_case}
use Rattle.redl_io.specs.Limits.{depth}
use Rattle.redl_reading.specs.Lists.{front, after}
use Rattle.redl_bare.specs.Units.{Text, byte, object, BareUnit, text, thing, member, story}
use Rattle.redl_bare.specs.declared.object.Object.TheVariants.{FieldBegin, FieldSeparate, FieldEnd}

-- ---- codes

abbrev pub is_blank : ℕ → Bool
is_blank b = b == 32 || (b == 9 || (b == 10 || b == 13))

abbrev pub is_in_name : ℕ → Bool
is_in_name b = not (is_blank b || b == 92)

-- the name of the field with this code: its first word, before its switches
abbrev pub field_name : List ℕ → List ℕ
field_name code = front is_in_name (after is_blank code)

-- capitals and small letters are the same in names of fields
abbrev pub is_name : List ℕ → List ℕ → Bool
is_name word name = str_eq_ignore_ascii_case word name

abbrev pub counts_pages : List ℕ → Bool
counts_pages word = is_name word (codes "PAGE") || (is_name word (codes "NUMPAGES") || is_name word (codes "SECTIONPAGES"))

abbrev pub tells_time : List ℕ → Bool
tells_time word =
    is_name word (codes "DATE")
    || (is_name word (codes "TIME")
    || (is_name word (codes "SAVEDATE")
    || (is_name word (codes "PRINTDATE") || (is_name word (codes "CREATEDATE") || is_name word (codes "EDITTIME")))))

-- whether the result of the field with this code is left out
abbrev pub is_counted : List ℕ → Bool
is_counted code = counts_pages (field_name code) || tells_time (field_name code)

-- ---- where texts are among fields

-- Whether they are the code of a field, the bytes of that code so far, and how many fields are open from
-- one on whose result is left out. A field in the code of another one ends that code.
pub record Fields : Type 0 where
  pub in_code : Bool
  pub code : List ℕ
  pub silent : ℕ

abbrev pub no_field : Fields
no_field = record { in_code = false; code = []; silent = 0 }

-- of a code no more is looked at than this: all names of fields are shorter
abbrev pub with_byte : List ℕ → ℕ → List ℕ
with_byte code b = if ltb (length code) 64 then code ++ (b ∷ []) else code

-- and of fields in a result that is left out no more are counted than elements may be nested
abbrev pub one_more : ℕ → ℕ
one_more count = if ltb count depth then count + 1 else count

abbrev pub at_begin : Fields → Fields
at_begin f =
    if f.silent == 0 then record { in_code = true; code = []; silent = 0 }
    else record { in_code = f.in_code; code = f.code; silent = one_more f.silent }

-- at the end of a code the result begins
abbrev pub at_separate : Fields → Fields
at_separate f =
    record { in_code = false; code = f.code; silent = if f.in_code && is_counted f.code then 1 else f.silent }

abbrev pub at_end : Fields → Fields
at_end f = record { in_code = false; code = f.code; silent = f.silent - 1 }

-- where the next text is, after one
abbrev pub after_text : Fields → Text → Fields
after_text f (byte b) = record { in_code = f.in_code; code = if f.in_code then with_byte f.code b else f.code; silent = f.silent }
after_text f (object FieldBegin) = at_begin f
after_text f (object FieldSeparate) = at_separate f
after_text f (object FieldEnd) = at_end f
after_text f (object _) = f

-- and after a unit: a field may go over paragraphs, but stays in its story
abbrev pub after_unit : Fields → BareUnit → Fields
after_unit f (text marks t) = after_text f t
after_unit f (thing marks t) = f
after_unit f (member kind stamp) = f
after_unit f (story s) = no_field

abbrev pub after_units : Fields → List BareUnit → Fields
after_units f [] = f
after_units f (u ∷ us) = after_units (after_unit f u) us

-- ---- what is left

-- A text is left out where both before and after it a result is left out. So the parts of a field that counts pages or tells the time
-- stay, and its code, and what is between them is gone.
abbrev pub is_shown : Fields → Text → Bool
is_shown f t = f.silent == 0 || (after_text f t).silent == 0

abbrev pub kept : Fields → BareUnit → List BareUnit
kept f (text marks t) = if is_shown f t then text marks t ∷ [] else []
kept f u = u ∷ []

-- these units without such results
abbrev pub uncounted : Fields → List BareUnit → List BareUnit
uncounted f [] = []
uncounted f (u ∷ us) = kept f u ++ uncounted (after_unit f u) us
