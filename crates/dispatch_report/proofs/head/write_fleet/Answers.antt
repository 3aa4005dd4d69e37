use Rattle.dispatch_report.proofs.head.write_fleet.Goals as goal

pub returns : goal.returns
returns g c = rw (← c.vehicles.ensures.vehicles) c.write_number.ensures
