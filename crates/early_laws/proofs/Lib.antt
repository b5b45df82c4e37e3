mod Timely
