use Rattle.std.proofs.Common.{◌≡◌, ℕ, ◌+◌, ◌-◌, ◌/◌, replicate, sym, ap, ◌∙◌, arith}
use Rattle.stream.specs.Bytes.{store_at}
use Rattle.stream.specs.Internal.{place_at}
use Rattle.stream.proofs.ListingLaws.{along_heap}
use Rattle.directory.proofs.DirectoryLaws.{clusters_along}
use Rattle.file.proofs.RefreshLaws.{zeros_none, zeroed_some, zeroed_none}
use Rattle.file.proofs.refresh.zero_range.Goals as goal

pub fill-requires : goal.fill-requires
fill-requires _ c =
    let p = c.requires in
    (omega arith, (p.0, (along_heap _ _ _ p.1.0, (omega arith, (p.1.1.1, omega arith)))))

pub returns-then-from-to : goal.returns-then-from-to
returns-then-from-to _ c =
    let a = c.args in
    let p = c.requires in
    let e = c.fill.ensures in
    let n : a.from + (a.to - a.from) - 1 ≡ a.to - 1 = omega arith in (
      e.0 ∙ ap (λ l. store_at a.sys.now.y a.vol.now l a.from (replicate (a.to - a.from) 0)) (sym (clusters_along a.sys.now.y a.vol.now a.b p.1.0)),
      e.1 ∙ ap (λ (x : ℕ). place_at a.sys.now.y a.vol.now a.b (x / a.sys.now.y.size)) n ∙ sym (zeroed_some _ _ _ _ _ _ (omega arith)),
    )

pub returns : goal.returns
returns _ c =
    let a = c.args in
    (sym (zeros_none _ _ _ _ (a.to - a.from) (omega arith)), sym (zeroed_none _ _ _ _ _ _ (omega arith)))
