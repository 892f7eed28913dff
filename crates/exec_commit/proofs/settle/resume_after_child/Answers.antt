use Rattle.exec_commit.specs.StepLaws.{place_range}
use Rattle.exec_commit.specs.SettleLaws.{resume-none, resume-ready, resume-raised, resume-pending}
use Rattle.exec_commit.proofs.NoGather.{not_some}
use Rattle.exec_commit.proofs.settle.resume_after_child.Goals as goal

pub returns-in_default : goal.returns-in_default
returns-in_default c = λ ts q l. resume-none ts c.args.objects.now c.args.places.now q l c.args.g.0 c.as_awaited.result c.as_awaited.ensures c.args.next c.args.poll (not_some _ c.in_default.not-Some)

pub fill_place-requires : goal.fill_place-requires
fill_place-requires c = (place_range _ _ c.as_awaited.result _ _ c.as_awaited.ensures c.in-Some.is c.requires.1).in_places

pub open_place-requires : goal.open_place-requires
open_place-requires c = (c.requires.0, (place_range _ _ c.as_awaited.result _ _ c.as_awaited.ensures c.in-Some.is c.requires.1).in_items)

pub returns-in-Ready : goal.returns-in-Ready
returns-in-Ready c = λ ts q l. resume-ready ts c.args.objects.now c.args.places.now q l c.args.g.0 c.as_awaited.result c.as_awaited.ensures c.args.next c.args.poll _ c.in-Some.is _ c.in-Ready.is (c.fill_place.ensures ts c.args.objects.now q l)

pub returns-in-Raised : goal.returns-in-Raised
returns-in-Raised c = λ ts q l. resume-raised ts c.args.objects.now c.args.places.now q l c.args.g.0 c.as_awaited.result c.as_awaited.ensures c.args.next c.args.poll _ c.in-Some.is _ c.in-Raised.is

pub returns-in-Pending : goal.returns-in-Pending
returns-in-Pending c = λ ts q l. resume-pending ts c.args.objects.now c.args.places.now q l c.args.g.0 c.as_awaited.result c.as_awaited.ensures c.args.next c.args.poll _ c.in-Some.is c.in-Pending.is (c.open_place.ensures ts c.args.places.now q l)
