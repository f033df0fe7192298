-- `calls_writing::trio_site::GroundLay::lay` meets its contract: each arm lays the bytes of its case's name. Assumes nothing.
use Rattle.calls_writing.proofs.trio_site.GroundLay.lay.Goals as goal

pub returns-in-Won : goal.returns-in-Won
returns-in-Won c = rw c.in-Won.is c.lay.ensures

pub returns-in-Tied : goal.returns-in-Tied
returns-in-Tied c = rw c.in-Tied.is c.lay-in-Tied.ensures

pub returns-in-Unread : goal.returns-in-Unread
returns-in-Unread c = rw c.in-Unread.is c.lay-in-Unread.ensures

pub returns-in-Inferred : goal.returns-in-Inferred
returns-in-Inferred c = rw c.in-Inferred.is c.lay-in-Inferred.ensures
