-- `calls_writing::shown::lay_member` meets its contract: a mark, and the member behind it, or nothing. Assumes nothing.
use mathlib.Core.List.{append-nil}
use Rattle.text_writing.proofs.LayingLaws.{laid_behind, laid_as}
use Rattle.calls_writing.proofs.MemberLaws.{or_none, or_some}
use Rattle.calls_writing.proofs.shown.lay_member.Goals as goal

pub returns-in_default : goal.returns-in_default
returns-in_default g c = rw c.in_default.is (record { text = c.lay.ensures; some = or_none c.args.shown.any })

pub returns : goal.returns
returns g c =
    rw c.in-Some.is (record {
      text = laid_as (laid_behind c.lay_mark-to_member.ensures c.lay-2.ensures) (simp append-nil);
      some = or_some c.args.shown.any;
    })
