mod Delivered
mod Reporting
mod Summed
