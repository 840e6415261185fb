-- Each phase is laid as its call promises.
use Rattle.text_block.proofs.phase_line.Goals as goal

pub returns-in-Idle : goal.returns-in-Idle
returns-in-Idle c = rw c.in-Idle.is c.put.ensures

pub returns-in-Loading : goal.returns-in-Loading
returns-in-Loading c = rw c.in-Loading.is c.put-in-Loading.ensures

pub returns-in-Active : goal.returns-in-Active
returns-in-Active c = rw c.in-Active.is c.put-in-Active.ensures

pub returns-in-Unloading : goal.returns-in-Unloading
returns-in-Unloading c = rw c.in-Unloading.is c.put-in-Unloading.ensures
