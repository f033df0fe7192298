-- `calls_writing::diploid_site::StateLay::lay` meets its contract: each arm lays the bytes of its case's name. Assumes nothing.
use Rattle.calls_writing.proofs.diploid_site.StateLay.lay.Goals as goal

pub returns-in-Ref : goal.returns-in-Ref
returns-in-Ref c = rw c.in-Ref.is c.lay.ensures

pub returns-in-Het : goal.returns-in-Het
returns-in-Het c = rw c.in-Het.is c.lay-in-Het.ensures

pub returns-in-Hom : goal.returns-in-Hom
returns-in-Hom c = rw c.in-Hom.is c.lay-in-Hom.ensures

pub returns-in-Non : goal.returns-in-Non
returns-in-Non c = rw c.in-Non.is c.lay-in-Non.ensures
