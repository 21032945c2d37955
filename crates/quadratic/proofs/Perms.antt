-- What a shuffle of a list keeps. Assumes nothing.
use Rattle.std.proofs.Common.{◌≡◌, ℕ, suc, ◌<◌, List, [], ◌∷◌, ◌++◌, length, get_or, take, drop, set, refl, ap, ◌∙◌, subst}
use mathlib.Core.List.Permᴰ
use mathlib.Core.List.{Permᴰ}
use lib.Seq.{split_at, set_split}
use Rattle.std.specs.List.{flat_map, AllByRecursion}
use Rattle.std.proofs.lemmas.List.{append-nil}
pub use Rattle.std.proofs.lemmas.Grind.{flat_map-append as joined_append}
pub use Rattle.std.proofs.lemmas.Simd.{map-map as map_map}

module _ {X : Type 0} where
  pub perm_same : {xs ys : List X} → xs ≡ ys → Permᴰ xs ys
  perm_same {xs} {ys} e = subst (λ z. Permᴰ xs z) e (Permᴰ.refl xs)

  -- a list between two others comes to the front
  pub perm_front : (us bs cs : List X) → Permᴰ (us ++ (bs ++ cs)) (bs ++ (us ++ cs))
  perm_front us [] cs = Permᴰ.refl (us ++ cs)
  perm_front us (b ∷ bs) cs = Permᴰ.trans (Permᴰ.middle b us (bs ++ cs)) (Permᴰ.cons refl (perm_front us bs cs))

  -- so does the last element
  pub perm_last : (xs : List X) (x : X) → Permᴰ (xs ++ (x ∷ [])) (x ∷ xs)
  perm_last xs x = Permᴰ.trans (Permᴰ.middle x xs []) (Permᴰ.cons refl (perm_same (append-nil xs)))

  pub perm_all : (P : X → Type 0) {xs ys : List X} → Permᴰ xs ys → AllByRecursion P xs → AllByRecursion P ys
  perm_all P Permᴰ.nil h = tt
  perm_all P (Permᴰ.cons e p) h = (subst P e h.0, perm_all P p h.1)
  perm_all P (Permᴰ.swap e k) h = (subst P k h.1.0, (subst P e h.0, h.1.1))
  perm_all P (Permᴰ.trans p q) h = perm_all P q (perm_all P p h)

  -- the element at place i goes, the others stay
  pub others : List X → ℕ → List X
  others xs i = take i xs ++ drop (suc i) xs

  pub perm_at : (xs : List X) (i : ℕ) (d : X) → i < length xs → Permᴰ xs (get_or xs i d ∷ others xs i)
  unfolding others
  perm_at xs i d h = Permᴰ.trans (perm_same (split_at xs i d h)) (Permᴰ.middle (get_or xs i d) (take i xs) (drop (suc i) xs))

  pub perm_set : (xs : List X) (i : ℕ) (x : X) → i < length xs → Permᴰ (set xs i x) (x ∷ others xs i)
  unfolding others
  perm_set xs i x h = Permᴰ.trans (perm_same (set_split xs i x h)) (Permᴰ.middle x (take i xs) (drop (suc i) xs))

pub perm_joined : {X Y : Type 0} (f : X → List Y) {xs ys : List X} → Permᴰ xs ys → Permᴰ (flat_map f xs) (flat_map f ys)
perm_joined f Permᴰ.nil = Permᴰ.nil
perm_joined f (Permᴰ.cons {a} {b} {l₂ = m} e p) =
    Permᴰ.trans (Permᴰ.append_left (f a) (perm_joined f p)) (perm_same (ap (λ z. f z ++ flat_map f m) e))
perm_joined f (Permᴰ.swap {a} {b} {a'} {b'} {l} e k) =
    Permᴰ.trans (perm_front (f a) (f b) (flat_map f l)) (perm_same (ap (λ z. f z ++ (f a ++ flat_map f l)) k ∙ ap (λ z. f a' ++ (f z ++ flat_map f l)) e))
perm_joined f (Permᴰ.trans p q) = Permᴰ.trans (perm_joined f p) (perm_joined f q)
