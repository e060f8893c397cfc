-- Parts of a line read one behind the other: their items and their ways past the words join up.
use Rattle.std.proofs.Common.{◌≡◌, List, [], ◌∷◌, ◌++◌, length, get_or, Ok, sym, refl, ap, ◌∙◌, subst, append-nil, arith}
use Rattle.std.specs.List.{flat_map}
use Rattle.script.specs.Grammar.{Item, Says, Spelt}
use Rattle.script.specs.Readings.{Progress, reached, ◌then◌, by_name, Took}
use Rattle.script.specs.Words.{Text}

-- the items are spelt from `before` to `after`, and the way leads past them
pub record Past (is : List Item) (past : List Text → Progress) (before after : List Text) : Type 0 where
  pub course : reached after ≡ past before
  pub spelt : Spelt is before after

-- ---- from a call to the next

pub read : {A : Type 0} {items : A → List Item} {past : List Text → Progress} {before after : List Text} {a : A} → Took items past before (Ok a) after → Past (items a) past before after
read t = record { course = t.course; spelt = t.spelt }

pub took : {A : Type 0} {items : A → List Item} {past : List Text → Progress} {before after : List Text} {a : A} → Past (items a) past before after → Took items past before (Ok a) after
took p = record { course = p.course; spelt = p.spelt }

-- behind a word that stands before the rest
pub on : {p : Progress} {ws : List Text} (next : List Text → Progress) {q : Progress} → reached ws ≡ p → q ≡ next ws → q ≡ p then next
on next {q} e h = subst (λ (p : Progress). q ≡ p then next) e h

joined : (is js : List Item) (before mid after : List Text) → Spelt is before mid → Spelt js mid after → Spelt (is ++ js) before after
joined [] js before mid after e h = subst (λ (ws : List Text). Spelt js ws after) (sym e) h
joined (i ∷ is) js [] mid after e h = e
joined (i ∷ is) js (w ∷ ws) mid after e h = (e.0, joined is js ws mid after e.1 h)

infixr 20 ◌&◌
pub ◌&◌ : {is js : List Item} {p q : List Text → Progress} {before mid after : List Text} → Past is p before mid → Past js q mid after → Past (is ++ js) (λ ws. p ws then q) before after
◌&◌ {is} {js} {p} {q} {before} {mid} {after} a b = record { course = on q a.course b.course; spelt = joined is js before mid after a.spelt b.spelt }

pub nothing : {ws : List Text} → Past [] reached ws ws
nothing = record { course = refl; spelt = refl }

-- ---- words that name what follows

-- past a word that is this name
pub named : {is : List Item} {next : Text → List Text → Progress} {t : Text} {before after : List Text} → Past is (next t) before after → Past (Says t ∷ is) (by_name next) (t ∷ before) after
named p = record { course = p.course; spelt = (refl, p.spelt) }

pub name : {is : List Item} {next : Text → List Text → Progress} {t w : Text} {ws before after : List Text} → before ≡ w ∷ ws → w ≡ t → Past is (next t) ws after → Past (Says t ∷ is) (by_name next) before after
name {is} {next} {t} {w} {ws} {before} {after} e s p =
    subst (λ (us : List Text). Past (Says t ∷ is) (by_name next) us after) (sym (e ∙ ap (λ (u : Text). u ∷ ws) s)) (named p)

-- ---- arrays

-- two in a row, each at its place
pub two : {A : Type 0} (items : A → List Item) (blank : A) (xs : List A) → length xs ≡ 2 → flat_map items xs ≡ items (get_or xs 0 blank) ++ items (get_or xs 1 blank)
two items blank [] e = absurd (omega arith)
two items blank (a ∷ []) e = absurd (omega arith)
two items blank (a ∷ b ∷ []) e = rw (append-nil (items b)) refl
two items blank (a ∷ b ∷ c ∷ xs) e = absurd (omega arith)

-- four in a row
pub four : {A : Type 0} (items : A → List Item) (blank : A) (xs : List A) → length xs ≡ 4 → flat_map items xs ≡ items (get_or xs 0 blank) ++ (items (get_or xs 1 blank) ++ (items (get_or xs 2 blank) ++ items (get_or xs 3 blank)))
four items blank [] e = absurd (omega arith)
four items blank (a ∷ []) e = absurd (omega arith)
four items blank (a ∷ b ∷ []) e = absurd (omega arith)
four items blank (a ∷ b ∷ c ∷ []) e = absurd (omega arith)
four items blank (a ∷ b ∷ c ∷ d ∷ []) e = rw (append-nil (items d)) refl
four items blank (a ∷ b ∷ c ∷ d ∷ f ∷ xs) e = absurd (omega arith)

-- what is spelt, in other words
pub spelt_as : {is js : List Item} {past : List Text → Progress} {before after : List Text} → is ≡ js → Past is past before after → Past js past before after
spelt_as {is} {js} {past} {before} {after} e p = subst (λ (ks : List Item). Past ks past before after) e p
