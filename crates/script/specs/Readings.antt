-- How far the words of a line can be read from the left, and why no further.
use Rattle.std.specs.Prelude.{◌≡◌, ℕ, zero, suc, Bool, cond, ◌||◌, List, [], ◌∷◌, IfOk, Ok, Err, codes, Result}
use Rattle.std.specs.Str.{bytes_eq}
use Rattle.script.specs.Grammar.{Item, Spelt}
use Rattle.script.specs.Numerals.{is_number, is_word, is_place}
use Rattle.script.specs.Words.{Text}
use Rattle.script.specs.declared.fault.Fault.{Fault}
use Rattle.script.specs.declared.fault.Fault.TheVariants.{UnknownCommand, TooFewWords, TooManyWords, NotNumber, NotWord, NotPlace, NotOneOrTwo}

-- the words still to come, or the fault that ends the reading
pub data Progress : Type 0 where
  reached : List Text → Progress
  faulty : Fault → Progress

abbrev pub progress : {A : Type 0} → Result A Fault → List Text → Progress
progress (Ok a) ws = reached ws
progress (Err f) ws = faulty f

infixl 20 ◌then◌
abbrev pub ◌then◌ : Progress → (List Text → Progress) → Progress
◌then◌ (reached ws) next = next ws
◌then◌ (faulty f) next = faulty f

-- past the end of the line
abbrev pub past_end : List Text → Progress
past_end [] = reached []
past_end (w ∷ ws) = faulty TooManyWords

-- past a word that passes the test
abbrev pub past_one : (Text → Bool) → Fault → List Text → Progress
past_one passes f [] = faulty TooFewWords
past_one passes f (w ∷ ws) = cond (passes w) (reached ws) (faulty f)

abbrev pub past_number : List Text → Progress
past_number = past_one is_number NotNumber

abbrev pub past_word : List Text → Progress
past_word = past_one is_word NotWord

abbrev pub past_place : List Text → Progress
past_place = past_one is_place NotPlace

abbrev pub past_ordinal : List Text → Progress
past_ordinal = past_one (λ w. bytes_eq w (codes "1") || bytes_eq w (codes "2")) NotOneOrTwo

-- past a part that stands there this many times
abbrev pub times : ℕ → (List Text → Progress) → List Text → Progress
times zero part ws = reached ws
times (suc n) part ws = part ws then times n part

abbrev pub past_vector : List Text → Progress
past_vector = times 3 past_number

-- past one part and then another
abbrev pub past_both : (List Text → Progress) → (List Text → Progress) → List Text → Progress
past_both first second ws = first ws then second

abbrev pub past_segment : List Text → Progress
past_segment = past_both past_vector past_vector

abbrev pub past_point2 : List Text → Progress
past_point2 = times 2 past_number

abbrev pub past_segment2 : List Text → Progress
past_segment2 = times 2 past_point2

abbrev pub past_pose : List Text → Progress
past_pose ws = past_vector ws then (λ us. past_vector us then past_number)

-- past a part, unless the line ends here
abbrev pub unless_ended : (List Text → Progress) → List Text → Progress
unless_ended part [] = reached []
unless_ended part (w ∷ ws) = part (w ∷ ws)

abbrev pub past_hint : List Text → Progress
past_hint = unless_ended past_vector

abbrev pub past_row : List Text → Progress
past_row ws = past_place ws then (λ us. times 4 past_vector us then (λ vs. times 4 past_word vs then (λ xs. times 4 past_word xs then past_word)))

-- by the word that comes next
abbrev pub by_name : (Text → List Text → Progress) → List Text → Progress
by_name next [] = faulty TooFewWords
by_name next (w ∷ ws) = next w ws

-- `this` where the word says so, else `other`
abbrev pub saying : Text → Text → Progress → Progress → Progress
saying name w this other = cond (bytes_eq w name) this other

abbrev pub past_form : Text → List Text → Progress
past_form w ws =
    saying (codes "cylinder") w (times 2 past_number ws)
    (saying (codes "cuboid") w (past_vector ws)
    (faulty UnknownCommand))

abbrev pub past_deed : Text → List Text → Progress
past_deed w ws =
    saying (codes "support") w (past_vector ws then past_hint)
    (saying (codes "make") w (past_row ws)
    (saying (codes "transform") w (past_pose ws)
    (saying (codes "show") w (reached ws)
    (faulty UnknownCommand))))

abbrev pub past_kind : Text → List Text → Progress
past_kind w ws =
    saying (codes "vertex") w (reached ws)
    (saying (codes "edge") w (reached ws)
    (saying (codes "face") w (reached ws)
    (faulty UnknownCommand)))

abbrev pub past_named : Text → List Text → Progress
past_named w ws =
    saying (codes "shape") w (past_ordinal ws then by_name past_form)
    (saying (codes "feature") w (past_ordinal ws then by_name past_deed)
    (saying (codes "id") w (by_name past_kind ws then past_word)
    (saying (codes "clip") w (times 2 past_segment ws)
    (saying (codes "lines") w (times 2 past_segment2 ws)
    (saying (codes "sqrt") w (past_number ws)
    (faulty UnknownCommand))))))

abbrev pub past_command : List Text → Progress
past_command = by_name past_named

-- the whole line, which ends behind its command
abbrev pub past_line : List Text → Progress
past_line ws = past_command ws then past_end

-- A part of a line was read up to the words `after`, and they spell what it gave; or the fault is the first one.
pub record Took {A : Type 0} (items : A → List Item) (past : List Text → Progress) (before : List Text) (r : Result A Fault) (after : List Text) : Type 0 where
  pub course : progress r after ≡ past before
  pub spelt : IfOk r (λ a. Spelt (items a) before after)
