pub mod WorkloadSteps
