-- One more call of the function that does a case, by what it answers. Assumes nothing.
use Rattle.std.proofs.Common.{ℕ, ◌+◌, ◌≡◌, sym, subst, Bool, true, false, Result, Ok}
use Rattle.cases.specs.Cases.{CasesFrom}

module _ {F E : Type 0} {step : F → ℕ → Result Bool E → F → Type 0} {f : F} {number : ℕ} where
  pub ends : (g : F) (more : Bool) → more ≡ false → step f number (Ok more) g → CasesFrom step f number (Ok tt)
  ends g more e call = CasesFrom.last (subst (λ (more : Bool). step f number (Ok more) g) e call)

  pub goes : (g : F) (more : Bool) {result : Result Unit E} → more ≡ true → step f number (Ok more) g
      → CasesFrom step g (number + 1) result → CasesFrom step f number result
  goes g more e call rest = CasesFrom.more (subst (λ (more : Bool). step f number (Ok more) g) e call) rest

  pub stops : number ≡ 0xFFFF_FFFF_FFFF_FFFF → CasesFrom step f number (Ok tt)
  stops e = subst (λ (k : ℕ). CasesFrom step f k (Ok tt)) (sym e) CasesFrom.most
