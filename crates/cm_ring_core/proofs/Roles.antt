-- A role stands in one view: what a step and a split leave of that.
use Rattle.std.proofs.Common.{◌≡◌, ℕ, zero, suc, ◌<◌, ◌⊎◌, List, [], ◌∷◌, ◌++◌, length, set, sym, refl, ap, ◌∙◌, subst, ⊎_elim, inl, inr, Option, Some, None, arith}
use mathlib.Core.Option.{some, some-injective, some-ne-none}
use mathlib.Core.Logic.{dite}
use native.Mathlib.Decide.{ℕ_discrete}
use lib.ListN.{get_elem?}
use Rattle.atomic_table.proofs.Lists.{at_set, set_here, set_else, at_longer, at_last}
use Rattle.cm_ring_core.specs.declared.view.RingConstants.{RingConstants}
use Rattle.cm_ring_core.specs.declared.view.View.{View}
use Rattle.cm_ring_core.specs.Lawful.{Sits}

-- an index with an element lies below the length
pub below : {A : Type 0} → (l : List A) (i : ℕ) (a : A) → get_elem? l i ≡ some a → i < length l
below [] i a e = absurd (some-ne-none a (sym e))
below (x ∷ xs) zero a e = omega arith
below (x ∷ xs) (suc i) a e = let r = below xs i a e in omega arith

-- what is found past the end of a list with one more is the one more
past : {A : Type 0} → (l : List A) (a b : A) (j : ℕ) → get_elem? (l ++ a ∷ []) j ≡ some b → (get_elem? l j ≡ some b) ⊎ ((j ≡ length l) × (a ≡ b))
past [] a b zero e = inr (refl, some-injective a b e)
past [] a b (suc j) e = absurd (some-ne-none b (sym e))
past (x ∷ xs) a b zero e = inl e
past (x ∷ xs) a b (suc j) e = ⊎_elim (λ t. inl t) (λ t. inr (ap suc t.0, t.1)) (past xs a b j e)

same_there : {A : Type 0} → (l : List A) (i : ℕ) (a b : A) → get_elem? l i ≡ some a → get_elem? l i ≡ some b → a ≡ b
same_there l i a b e f = some-injective a b (sym e ∙ f)

-- each view has what the view before it had
pub all_set : (views : List View) (ring : RingConstants) (id : ℕ) (w : View) → ((j : ℕ) (v : View) → get_elem? views j ≡ some v → v.ring ≡ ring) → w.ring ≡ ring → (j : ℕ) (v : View) → get_elem? (set views id w) j ≡ some v → v.ring ≡ ring
all_set views ring id w h is j v at = ⊎_elim (λ t. let e = t.1 in cc) (λ t. h j v t.1) (at_set views id j w v at)

pub all_snoc : (views : List View) (ring : RingConstants) (w : View) → ((j : ℕ) (v : View) → get_elem? views j ≡ some v → v.ring ≡ ring) → w.ring ≡ ring → (j : ℕ) (v : View) → get_elem? (views ++ w ∷ []) j ≡ some v → v.ring ≡ ring
all_snoc views ring w h is j v at = ⊎_elim (λ t. h j v t) (λ t. let e = t.1 in cc) (past views w v j at)

module _ {F : Type 0} (part_of : View → Option F) (views : List View) (part : F) where
  -- the part that a view has of the role is the role's
  pub sits_is : Sits part_of views part → (id : ℕ) (v : View) (f : F) → get_elem? views id ≡ some v → part_of v ≡ Some f → f ≡ part
  sits_is h id v f at has = (h.only id v f at has).1

  -- the seat with the role has a new view with another part
  pub sits_turn : Sits part_of views part → (id : ℕ) (v w : View) (f g : F) → get_elem? views id ≡ some v → part_of v ≡ Some f → part_of w ≡ Some g → Sits part_of (set views id w) g
  sits_turn h id v w f g at has has' = record {
    place = id;
    view = w;
    there = set_here views id w (below views id v at);
    has = has';
    only = λ j u p at' is. ⊎_elim
        (λ t. let e = t.1 in (t.0, cc))
        (λ t. absurd (t.0 ((h.only j u p t.1 is).0 ∙ sym ((h.only id v f at has).0))))
        (at_set views id j w u at');
  }

  still : (h : Sits part_of views part) (id : ℕ) (v w : View) → get_elem? views id ≡ some v → part_of w ≡ part_of v
      → (u : View) × (get_elem? (set views id w) h.place ≡ some u) × (part_of u ≡ Some part)
  still h id v w at same = let there = h.there in let has = h.has in dite (ℕ_discrete h.place id)
      (λ e. let there' : get_elem? views id ≡ some h.view = subst (λ (k : ℕ). get_elem? views k ≡ some h.view) e there in
      let q : v ≡ h.view = same_there views id v h.view at there' in
      (w, subst (λ (k : ℕ). get_elem? (set views id w) k ≡ some w) (sym e) (set_here views id w (below views id v at)), same ∙ (ap part_of q ∙ has)))
      (λ ne. (h.view, set_else views id h.place w ne ∙ there, has))

  -- a seat has a new view, with what it had of the role
  pub sits_stay : Sits part_of views part → (id : ℕ) (v w : View) → get_elem? views id ≡ some v → part_of w ≡ part_of v → Sits part_of (set views id w) part
  sits_stay h id v w at same = let u = still h id v w at same in record {
    place = h.place;
    view = u.0;
    there = u.1;
    has = u.2;
    only = λ j y p at' is. ⊎_elim
        (λ t. let e = t.1 in let q : part_of v ≡ Some p = cc in let k = t.0 in let r = h.only id v p at q in (k ∙ r.0, r.1))
        (λ t. h.only j y p t.1 is)
        (at_set views id j w y at');
  }

  -- one more seat, without the role
  pub sits_more : Sits part_of views part → (w : View) → part_of w ≡ None → Sits part_of (views ++ w ∷ []) part
  sits_more h w without = record {
    place = h.place;
    view = h.view;
    there = at_longer views (w ∷ []) h.place h.view h.there;
    has = h.has;
    only = λ j y p at is. ⊎_elim (λ t. h.only j y p t is) (λ t. let e = t.1 in absurd (let q : None ≡ Some p = cc in cc)) (past views w y j at);
  }

  -- the seat's role goes to a new seat
  pub sits_move : Sits part_of views part → (id : ℕ) (v left right : View) (f : F) → get_elem? views id ≡ some v → part_of v ≡ Some f → part_of left ≡ None → part_of right ≡ part_of v
      → Sits part_of (set views id left ++ right ∷ []) part
  sits_move h id v left right f at has without with = let r = h.only id v f at has in record {
    place = length (set views id left);
    view = right;
    there = at_last (set views id left) right (length (set views id left)) refl;
    has = with ∙ (has ∙ ap (λ (p : F). Some p) r.1);
    only = λ j y p at' is. ⊎_elim
        (λ t. ⊎_elim
        (λ t'. let e = t'.1 in absurd (let q : None ≡ Some p = cc in cc))
        (λ t'. absurd (t'.0 ((h.only j y p t'.1 is).0 ∙ sym r.0)))
        (at_set views id j left y t))
        (λ t. let e = t.1 in let k = t.0 in let same = r.1 in (k, cc))
        (past (set views id left) right y j at');
  }
