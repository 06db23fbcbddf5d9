-- The orders of names and of failures.
use Rattle.std.proofs.Common.{ℕ, ◌≡◌, List}
use Rattle.std.specs.Cmp.{IsTotalOrder, on_total, then_total}
use Rattle.std.specs.Cmp.Lexicographic.{nat_list_cmp_total}
use Rattle.std.specs.declared.cmp.Ordering.TheVariants.{Equal}
use Rattle.std.proofs.lemmas.Map.Lookups.{exact_bytes, exact_pairs}
use Rattle.fleet_summary.specs.declared.facts.Failure.{Failure}
use Rattle.fleet_summary.specs.Names.{failure_cmp, name_cmp}

pub name_cmp-total : IsTotalOrder name_cmp
name_cmp-total = nat_list_cmp_total

pub name_cmp-exact : (x y : List ℕ) → name_cmp x y ≡ Equal → x ≡ y
name_cmp-exact = exact_bytes

pub failure_cmp-total : IsTotalOrder failure_cmp
failure_cmp-total = then_total (on_total (λ (failure : Failure). failure.exception) nat_list_cmp_total) (on_total (λ (failure : Failure). failure.group) nat_list_cmp_total)

pub failure_cmp-exact : (x y : Failure) → failure_cmp x y ≡ Equal → x ≡ y
failure_cmp-exact x y same =
    let pairs = exact_pairs name_cmp name_cmp name_cmp-exact name_cmp-exact (x.exception, x.group) (y.exception, y.group) same in
    λ i. record { exception = (pairs i).0; group = (pairs i).1 }
