use Rattle.std.proofs.Common.{sym, ◌∙◌, ap, arith, length, rules}
use Rattle.std.proofs.lemmas.Bool.{eqb-true, eqb-false}
use Rattle.host_types.proofs.InsertSorted.{there, new, one_more, index_within}
use Rattle.host_types.proofs.ascending.insert_sorted.Goals as goal

pub returns-then-is_at : goal.returns-then-is_at
returns-then-is_at g c = there g.T.Numbered.number c.args.one c.args.all.now.items c.as_slice.result.now c.as_slice-2.result.now c.index_of-at.result c.as_slice.ensures.value c.as_slice-2.ensures.value c.index_of-at.ensures c.if-is_at.ensures

pub returns-then-is_full : goal.returns-then-is_full
returns-then-is_full g c = one_more g.T.Numbered.number c.args.one c.args.all.now.items c.as_slice.result.now c.as_slice-2.result.now c.index_of-at.result c.as_slice.ensures.value c.as_slice-2.ensures.value c.index_of-at.ensures c.if-is_at.ensures (eqb-true _ _ (sym c.if-is_full.ensures.value))

pub insert-requires : goal.insert-requires
insert-requires g c =
    let w = c.well_formed in (
      search rules,
      (
        omega (arith, c.index_of-at.ensures, ap length c.as_slice.ensures.value, index_within g.T.Numbered.number c.args.one c.as_slice.result.now),
        omega (arith, c.is_full.ensures.fits, eqb-false _ _ (sym c.if-is_full.ensures.value)),
      ),
    )

pub returns : goal.returns
returns g c = c.insert.ensures.items ∙ sym (new g.T.Numbered.number c.args.one c.args.all.now.items c.as_slice.result.now c.as_slice-2.result.now c.index_of-at.result c.as_slice.ensures.value c.as_slice-2.ensures.value c.index_of-at.ensures c.if-is_at.ensures)
