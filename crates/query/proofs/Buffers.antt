-- A group of digits with the byte after them, and a buffer that such groups are written into, each behind the one before.
use Rattle.std.proofs.Common.{◌≡◌, ℕ, ◌+◌, ◌-◌, ◌*◌, ◌/◌, ◌%◌, ◌^◌, ◌<◌, ◌≤◌, List, [], ◌∷◌, ◌++◌, ltb, length, get_or, take, drop, set, refl, sym, ap, ◌∙◌, add-one, arith}
use borrow.Rule.Slice.PartMut.{put_mid}
use Rattle.std.specs.List.{flat_map}
use Rattle.std.proofs.lemmas.Bool.{le-ltb, cond-false}
use Rattle.std.proofs.lemmas.List.{set_at, take_more, take-append-drop, flat_map_more}
use Rattle.std.proofs.lemmas.Slice.{take-put_mid, drop-put_mid}
use Rattle.query.specs.Contacts.{Contact}
use Rattle.query.specs.Lines.{digit, hex_front, group, words, line, lined}

pub hex_more : (n v i : ℕ) → hex_front n v i ++ (digit (v / 2 ^ (4 * (n - 1 - i)) % 16) ∷ []) ≡ hex_front n v (i + 1)
unfolding hex_front
hex_more n v i = rw add-one refl

pub last_set : (xs ys : List ℕ) (n e : ℕ) → length xs ≡ n → length ys ≡ 1 → set (xs ++ ys) n e ≡ xs ++ (e ∷ [])
last_set xs [] n e h k = absurd (omega arith)
last_set xs (y ∷ []) n e h k = set_at xs y [] e n h
last_set xs (y ∷ z ∷ ys) n e h k = absurd (omega arith)

-- the group of the next number behind those of the numbers before it
pub take-groups_more : (f : ℕ → List ℕ) (ws buf grp : List ℕ) (p i k n : ℕ) → i < length ws → take p buf ≡ flat_map f (take i ws) → p ≤ length buf → n ≡ p + length grp → grp ≡ f (get_or ws i 0) → take n (put_mid p k buf grp) ≡ flat_map f (take (i + 1) ws)
take-groups_more f ws buf grp p i k n h front fits m is =
    take-put_mid p k buf grp n m fits
    ∙ ap (λ (xs : List ℕ). xs ++ grp) front
    ∙ ap (λ (xs : List ℕ). flat_map f (take i ws) ++ xs) is
    ∙ flat_map_more f [] (take i ws) (get_or ws i 0)
    ∙ ap (flat_map f) (sym (take_more ws i 0 h))

-- two groups behind a front, and what lies behind them stays
both_behind : (buf old front first second : List ℕ) (p j k m n : ℕ) → take p buf ≡ front → drop n buf ≡ drop n old → p ≤ length buf → m ≤ length (put_mid p j buf first) → length first ≡ j → length second ≡ k → m ≡ p + j → n ≡ m + k → put_mid m k (put_mid p j buf first) second ≡ front ++ first ++ second ++ drop n old
both_behind buf old front first second p j k m n e rest h h' f s fm fn =
    let buf' = put_mid p j buf first in
    let e1 = take-put_mid p j buf first m (omega arith) h in
    let e2 = take-put_mid m k buf' second n (omega arith) h' in
    let r1 = drop-put_mid p j buf first n (omega arith) h f in
    let r2 = drop-put_mid m k buf' second n (omega arith) h' s in
    sym (take-append-drop n (put_mid m k buf' second)) ∙ cc

-- the ids behind the numbers make the line
pub put_mid-ids : {D : Type 0} (c : Contact D) (old buf id1 id2 : List ℕ) → 137 ≤ length old → 119 ≤ length buf → 128 ≤ length (put_mid 119 9 buf id1) → take 119 buf ≡ flat_map (λ v. group 16 v 32) (words c) → drop 137 buf ≡ drop 137 old → length id1 ≡ 9 → length id2 ≡ 9 → id1 ≡ group 8 c.fid1.0 32 → id2 ≡ group 8 c.fid2.0 10 → put_mid 128 9 (put_mid 119 9 buf id1) id2 ≡ lined c old
unfolding line
put_mid-ids c old buf id1 id2 long fits fits' front rest n1 n2 is1 is2 =
    both_behind buf old (flat_map (λ v. group 16 v 32) (words c)) id1 id2 119 9 9 128 137 front rest fits fits' n1 n2 refl refl
    ∙ ap (λ (xs : List ℕ). flat_map (λ v. group 16 v 32) (words c) ++ xs ++ id2 ++ drop 137 old) is1
    ∙ ap (λ (xs : List ℕ). flat_map (λ v. group 16 v 32) (words c) ++ group 8 c.fid1.0 32 ++ xs ++ drop 137 old) is2
    ∙ sym (cond-false (ltb (length old) 137) old (line c ++ drop 137 old) (le-ltb (length old) 137 long))
