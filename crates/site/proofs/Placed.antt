-- What an option says after it was read as a result.
use Rattle.std.proofs.Common.{◌≡◌, ℕ, suc, false, Some, None, Ok, Option, is_some, sym, refl, ap, ◌∙◌}
use Rattle.site.specs.declared.trouble.Trouble.TheVariants.{NoReader}
use Rattle.std.proofs.lemmas.Option.{none-some, same_Some}
use Rattle.std.specs.Option.{ok_or, option_map}

pub placed : {A : Type 0} (o : Option A) (x : A) → Ok x ≡ ok_or o NoReader → Some x ≡ o
placed None x e = cc
placed (Some y) x e = cc

-- and what was said of the option is said of what it holds
pub placed_as : {A B : Type 0} (o : Option A) (x : A) → Ok x ≡ ok_or o NoReader → (f : A → B) (v : Option B) → option_map f o ≡ v → Some (f x) ≡ v
placed_as o x e f v q = ap (option_map f) (placed o x e) ∙ q

pub is_none : {A : Type 0} (o : Option A) → false ≡ is_some o → None ≡ o
is_none None e = cc
is_none (Some y) e = cc

-- the end of a reader is one more than its place
pub end_placed : (o : Option ℕ) (e : ℕ) → Some e ≡ option_map suc o → (p : ℕ) × (Some p ≡ o) × (e ≡ suc p)
end_placed None e h = absurd (none-some e (sym h))
end_placed (Some p) e h = (p, refl, same_Some _ _ h)
